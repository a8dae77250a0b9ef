-- what each kind of line says, both ways
use Rattle.std.proofs.Common.{◌≡◌, ℕ, suc, ◌<◌, ◌≤◌, Bool, ◌&&◌, T, eqb, ltb, leb, List, [], ◌∷◌, length, map, get_or, Some, Ok, codes, Option, sym, refl, ap, ◌∙◌, arith, ltb→lt}
use lib.Bits.{bit_and}
use Rattle.std.specs.List.{range_with_len}
use Rattle.std.proofs.lemmas.Bool.Decides.{nat_tests}
use Rattle.std.proofs.lemmas.List.FromFn.{fill_by_all}
use Rattle.fields.specs.Text.{Bytes, tab, joined, fields, at}
use Rattle.fields.proofs.Cuts.{parted_cut}
use Rattle.fields.specs.Read.{number_in, mark_in}
use Rattle.fields.specs.declared.faults.LineFault.TheVariants.{Letter, Count}
use Rattle.theory.specs.Model.{Method}
use Rattle.theory.specs.Rules.{keeps_mark, keeps_ladder}
use Rattle.theory.specs.declared.Constraint.{Constraint}
use Rattle.theory.specs.declared.Constraint.TheVariants.{Before, After, Between}
use Rattle.reading.specs.declared.faults.DomainFault.TheVariants.{Line, Full, Clash, Mark, Ladder}
use Rattle.reading.specs.declared.kinds.Kind.{Kind}
use Rattle.reading.specs.declared.kinds.Kind.TheVariants as kind
use Rattle.reading.specs.declared.kinds.Section.{Section}
use Rattle.reading.specs.Tables.{Tables, ActionEntry, TaskEntry, ranks, action_names, task_names, fact_of, task_of, symbol_of, add_fact, add_action, add_task, add_method, add_constraint}
use Rattle.reading.specs.Lines.{Check, ◌>>=◌, ◌>>◌, must, field, new_name, old_name, fact_set, subtask_list, last_method, arity, found, position_line}
use Rattle.reading.specs.Reading.{kind_at, kind_of, group, allowed, field_count, declared, head, line}
use Rattle.reading.specs.Declares.{Distinct, IsFact, IsAction, IsTask, IsPosition, IsConstraint, IsMethod, Block, Written}
use Rattle.reading.proofs.Checks.{bound, passed, ok_eq}
use Rattle.reading.proofs.Lookups.{Fresh, index_names, names_index, none_fresh, fresh_none, symbols, none_symbol, symbol_none, distinct_right}
use Rattle.reading.proofs.Fields.{new-said, said-new, old_said, said_old, number-said, said-number, mark-said, said-mark, set_said, said_set, subtasks-said, said-subtasks}
use Rattle.theory.proofs.Rules.{rules_decided}

-- the byte of a kind's letter
abbrev pub code : Kind → ℕ
code kind.Fact = 70
code kind.Action = 65
code kind.Task = 84
code kind.Method = 77
code kind.Before = 66
code kind.After = 80
code kind.Between = 75
code kind.Closing = 69

kind_code : (b : ℕ) (c : Kind) → kind_at b ≡ Some c → b ≡ code c
kind_code b c e = grind (arith, nat_tests)

letter_of : (f : Bytes) (c : Kind) → kind_of f ≡ Some c → f ≡ code c ∷ []
letter_of [] c e = absurd cc
letter_of (b ∷ []) c e = ap (λ (x : ℕ). x ∷ []) (kind_code b c e)
letter_of (b ∷ d ∷ bs) c e = absurd cc

of_letter : (c : Kind) → kind_of (code c ∷ []) ≡ Some c
of_letter c = grind arith

-- a line of this kind may stand here, and with it the tables t become v
pub record Lined (s : Section) (t : Tables) (l : Bytes) (c : Kind) (v : Tables) : Type 0 where
  pub letter : at (fields l) 1 ≡ code c ∷ []
  pub here : T (allowed s c)
  pub count : length (fields l) ≡ field_count c
  pub short : length l ≤ 255
  pub said : declared c t (fields l) ≡ Ok v

pub line_of : (s : Section) (t : Tables) (l : Bytes) (c : Kind) (v : Tables) → Lined s t l c v → line s t l ≡ Ok (group c, v)
line_of s t l c v d = grind (arith, nat_tests, d.here, d.count, d.short, d.said, ap kind_of d.letter, of_letter c)

pub line_inv : (s : Section) (t : Tables) (l : Bytes) (r : Section × Tables) → line s t l ≡ Ok r → (c : Kind) × (group c ≡ r.0) × Lined s t l c r.1
line_inv s t l r e =
    let c = bound (head s l) _ r e in
    let u = bound (declared c.0 t (fields l)) (λ v. Ok (group c.0, v)) r c.2 in
    let z : ◌≡◌ {A = Section × Tables} (group c.0, u.0) r = ok_eq u.2 in
    let h = heads (kind_of (at (fields l) 1)) (allowed s) field_count (length (fields l)) (length l) c.0 c.1 in (
      c.0,
      ap (λ (r : Section × Tables). r.0) z,
      record { letter = letter_of _ c.0 h.0; here = h.1; count = h.2; short = h.3; said = u.1 ∙ ap Ok (ap (λ (r : Section × Tables). r.1) z) },
    )
  where
    heads : (o : Option Kind) (f : Kind → Bool) (g : Kind → ℕ) (n m : ℕ) (c : Kind)
        → ◌≡◌ {A = Check Kind} (found o (Line Letter) >>= λ k. must (f k) (Line Letter) >> (must (eqb n (g k) && leb m 255) (Line (Count n)) >> Ok k)) (Ok c)
        → (o ≡ Some c) × T (f c) × (n ≡ g c) × (m ≤ 255)
    heads o f g n m c e = grind (arith, nat_tests)

-- a list of so many fields, one by one
row : (n : ℕ) (c : Kind) (fs : List Bytes) → length fs ≡ suc n → at fs 1 ≡ code c ∷ [] → fs ≡ (code c ∷ []) ∷ map (λ i. get_or fs i []) (range_with_len 1 n)
row n c fs e q = fill_by_all (λ i. get_or fs i []) fs (suc n) [] e (λ k h. refl) ∙ ap (λ (f : Bytes). f ∷ map (λ i. get_or fs i []) (range_with_len 1 n)) q

-- a method with no constraints
abbrev pub bare : Method → Method
bare m = record { owner = m.owner; price = m.price; grade = m.grade; subtasks = m.subtasks; constraints = [] }

abbrev pub alone : Bytes → Block
alone l = record { line = l; below = [] }

module _ (s : Section) (t : Tables) (l : Bytes) (v : Tables) where
  pub fact-said : Lined s t l kind.Fact v → (n : Bytes) × IsFact l n × Fresh n t.facts × (length t.facts < 64) × (add_fact t n ≡ v)
  fact-said d =
      let n = bound (new_name (fact_of t) (fields l) 2) _ v d.said in
      let r = passed (ltb (length t.facts) 64) Full _ v n.2 in
      let k = new-said (fields l) 2 (fact_of t) n.0 n.1 in
      (at (fields l) 2, ((row 1 kind.Fact (fields l) d.count d.letter, d.short), k.1), none_fresh _ t.facts k.2, ltb→lt _ _ r.0, ap (add_fact t) k.0 ∙ ok_eq r.1)

  pub action_said : Lined s t l kind.Action v → (a : ActionEntry) × IsAction t l a × Fresh a.name (symbols t) × (length t.actions < 64) × (add_action t a ≡ v)
  action_said d =
      let n = bound (new_name (symbol_of t) (fields l) 2) _ v d.said in
      let p = bound (fact_set t (fields l) 3) _ v n.2 in
      let a = bound (fact_set t (fields l) 4) _ v p.2 in
      let x = bound (fact_set t (fields l) 5) _ v a.2 in
      let r = passed (ltb (length t.actions) 64) Full _ v x.2 in
      let b = passed (eqb (bit_and a.0 x.0) 0) Clash _ v r.1 in
      let k = new-said (fields l) 2 (symbol_of t) n.0 n.1 in (
        record { name = at (fields l) 2; needs = p.0; adds = a.0; deletes = x.0 },
        grind (arith, nat_tests, row 4 kind.Action (fields l) d.count d.letter, d.short, k.1, set_said t (fields l) 3 p.0 p.1, set_said t (fields l) 4 a.0 a.1, set_said t (fields l) 5 x.0 x.1, b.0),
        none_symbol t _ k.2,
        ltb→lt _ _ r.0,
        ap (λ (n : Bytes). add_action t (record { name = n; needs = p.0; adds = a.0; deletes = x.0 })) k.0 ∙ ok_eq b.1,
      )

  pub task_said : Lined s t l kind.Task v → (e : TaskEntry) × IsTask l e × Fresh e.name (symbols t) × (length t.tasks < 48) × (add_task t e ≡ v)
  task_said d =
      let n = bound (new_name (symbol_of t) (fields l) 2) _ v d.said in
      let p = bound (field (number_in (fields l) 3 0 7)) _ v n.2 in
      let m = bound (field (mark_in (fields l) 4)) _ v p.2 in
      let r = passed (ltb (length t.tasks) 48) Full _ v m.2 in
      let k = new-said (fields l) 2 (symbol_of t) n.0 n.1 in (
        record { name = at (fields l) 2; level = p.0; vanish = m.0 },
        grind (arith, row 3 kind.Task (fields l) d.count d.letter, d.short, k.1, number-said (fields l) 3 0 7 p.0 p.1, mark-said (fields l) 4 m.0 m.1),
        none_symbol t _ k.2,
        ltb→lt _ _ r.0,
        ap (λ (n : Bytes). add_task t (record { name = n; level = p.0; vanish = m.0 })) k.0 ∙ ok_eq r.1,
      )

  pub method_said : Lined s t l kind.Method v → (m : Method) × IsMethod t (alone l) m × (length t.methods < 128) × (add_method t (bare m) ≡ v)
  method_said d =
      let o = bound (old_name (task_of t) (fields l) 2) _ v d.said in
      let p = bound (field (number_in (fields l) 3 0 1000)) _ v o.2 in
      let g = bound (field (number_in (fields l) 4 0 9)) _ v p.2 in
      let ss = bound (subtask_list t (fields l) 5) _ v g.2 in
      let r = passed (ltb (length t.methods) 128) Full _ v ss.2 in
      let a = passed (keeps_mark (ranks t) o.0 ss.0) Mark _ v r.1 in
      let b = passed (keeps_ladder (ranks t) o.0 ss.0) Ladder _ v a.1 in
      let k = old_said (fields l) 2 (task_of t) o.0 o.1 in
      let w = subtasks-said t (fields l) 5 ss.0 ss.1 in
      let rules = rules_decided (ranks t) o.0 ss.0 in (
        record { owner = o.0; price = p.0; grade = g.0; subtasks = ss.0; constraints = [] },
        grind (arith, row 4 kind.Method (fields l) d.count d.letter, d.short, k.0, index_names (at (fields l) 2) (task_names t) o.0 k.1, number-said (fields l) 3 0 1000 p.0 p.1, number-said (fields l) 4 0 9 g.0 g.1, w, rules.0.0 a.0, rules.1.0 b.0),
        ltb→lt _ _ r.0,
        ok_eq b.1,
      )

  -- a constraint line, and the tables with it
  abbrev pub Constrains : Type 0
  Constrains = (x : Constraint) × IsConstraint t (arity t) l x × (length (last_method t).constraints < 4) × (add_constraint t x ≡ v)

  position_said : (c : ℕ → ℕ → Constraint) (letter : Bytes) → ((j f : ℕ) → IsPosition t (arity t) letter l j f → IsConstraint t (arity t) l (c j f))
      → Written l (letter ∷ at (fields l) 2 ∷ at (fields l) 3 ∷ []) → position_line c t (fields l) ≡ Ok v → Constrains
  position_said c letter is w e =
      let j = bound (field (number_in (fields l) 2 0 (arity t))) _ v e in
      let f = bound (old_name (fact_of t) (fields l) 3) _ v j.2 in
      let r = passed (ltb (length (last_method t).constraints) 4) Full _ v f.2 in
      let k = old_said (fields l) 3 (fact_of t) f.0 f.1 in (
        c j.0 f.0,
        is j.0 f.0 (grind (arith, w, number-said (fields l) 2 0 (arity t) j.0 j.1, k.0, index_names (at (fields l) 3) t.facts f.0 k.1)),
        ltb→lt _ _ r.0,
        ok_eq r.1,
      )

  pub before_said : Lined s t l kind.Before v → Constrains
  before_said d = position_said Before (codes "B") (λ j f i. i) (row 2 kind.Before (fields l) d.count d.letter, d.short) d.said

  pub after_said : Lined s t l kind.After v → Constrains
  after_said d = position_said After (codes "P") (λ j f i. i) (row 2 kind.After (fields l) d.count d.letter, d.short) d.said

  pub between_said : Lined s t l kind.Between v → Constrains
  between_said d =
      let i = bound (field (number_in (fields l) 2 1 (arity t))) _ v d.said in
      let f = bound (old_name (fact_of t) (fields l) 3) _ v i.2 in
      let j = bound (field (number_in (fields l) 4 (suc i.0) (arity t))) _ v f.2 in
      let r = passed (ltb (length (last_method t).constraints) 4) Full _ v j.2 in
      let k = old_said (fields l) 3 (fact_of t) f.0 f.1 in (
        Between i.0 f.0 j.0,
        grind (arith, row 3 kind.Between (fields l) d.count d.letter, d.short, number-said (fields l) 2 1 (arity t) i.0 i.1, k.0, index_names (at (fields l) 3) t.facts f.0 k.1, number-said (fields l) 4 (suc i.0) (arity t) j.0 j.1),
        ltb→lt _ _ r.0,
        ok_eq r.1,
      )

  pub closing_said : Lined s t l kind.Closing v → (l ≡ codes "E") × (t ≡ v)
  closing_said d = (sym (parted_cut tab l).joins ∙ ap (joined tab) (row 0 kind.Closing (fields l) d.count d.letter), ok_eq d.said)

-- the kind of a constraint's line
abbrev pub kind_for : Constraint → Kind
kind_for (Before j f) = kind.Before
kind_for (After j f) = kind.After
kind_for (Between i f j) = kind.Between

-- a line that says this, where it may, is accepted
module _ (s : Section) (t : Tables) (l : Bytes) where
  lined : (c : Kind) (fs : List Bytes) (v : Tables) → at fs 1 ≡ code c ∷ [] → length fs ≡ field_count c → T (allowed s c) → Written l fs → declared c t fs ≡ Ok v → Lined s t l c v
  lined c fs v e n h w d =
      record { letter = ap (λ (fs : List Bytes). at fs 1) w.0 ∙ e; here = h; count = ap length w.0 ∙ n; short = w.1; said = ap (declared c t) w.0 ∙ d }

  pub said_closing : T (allowed s kind.Closing) → Lined s t (codes "E") kind.Closing t
  said_closing h = record { letter = refl; here = h; count = refl; short = omega arith; said = refl }

  pub said-fact : (n : Bytes) → T (allowed s kind.Fact) → IsFact l n → Fresh n t.facts → length t.facts < 64 → Lined s t l kind.Fact (add_fact t n)
  said-fact n h i f r = lined kind.Fact (codes "F" ∷ n ∷ []) _ refl refl h i.0 (grind (arith, nat_tests, i.1, fresh_none n t.facts f, r))

  pub said_action : (a : ActionEntry) → T (allowed s kind.Action) → IsAction t l a → Distinct t.facts → Fresh a.name (symbols t) → length t.actions < 64 → Lined s t l kind.Action (add_action t a)
  said_action a h i d f r =
      let fs : List Bytes = codes "A" ∷ a.name ∷ i.needs ∷ i.adds ∷ i.deletes ∷ [] in
      lined kind.Action fs _ refl refl h i.written (grind (arith, nat_tests, said-new fs 2 (symbol_of t) i.name (symbol_none t a.name f), said_set t fs 3 a.needs d i.needed, said_set t fs 4 a.adds d i.added, said_set t fs 5 a.deletes d i.deleted, r, i.apart))

  pub said_task : (e : TaskEntry) → T (allowed s kind.Task) → IsTask l e → Fresh e.name (symbols t) → length t.tasks < 48 → Lined s t l kind.Task (add_task t e)
  said_task e h i f r =
      let fs : List Bytes = codes "T" ∷ e.name ∷ i.level ∷ i.mark ∷ [] in
      lined kind.Task fs _ refl refl h i.written (grind (arith, nat_tests, said-new fs 2 (symbol_of t) i.name (symbol_none t e.name f), said-number fs 3 0 7 e.level i.levelled, said-mark fs 4 e.vanish i.marked, r))

  pub said_method : (m : Method) → T (allowed s kind.Method) → IsMethod t (alone l) m → Distinct (symbols t) → length t.methods < 128 → Lined s t l kind.Method (add_method t (bare m))
  said_method m h i d r =
      let fs : List Bytes = codes "M" ∷ i.owner ∷ i.price ∷ i.grade ∷ i.subtasks ∷ [] in
      let rules = rules_decided (ranks t) m.owner m.subtasks in
      let n = names_index i.owner (task_names t) m.owner (distinct_right (action_names t) (task_names t) d) i.owned in
      lined kind.Method fs _ refl refl h i.written (grind (arith, nat_tests, said_old fs 2 (task_of t) m.owner i.form n, said-number fs 3 0 1000 m.price i.priced, said-number fs 4 0 9 m.grade i.graded, said-subtasks t fs 5 m.subtasks d i.names i.few i.parts, r, rules.0.1 i.mark, rules.1.1 i.ladder))

  said-position : (c : ℕ → ℕ → Constraint) (letter : Bytes) (j f : ℕ) (i : IsPosition t (arity t) letter l j f) → Distinct t.facts → length (last_method t).constraints < 4
      → position_line c t (letter ∷ i.position ∷ i.fact ∷ []) ≡ Ok (add_constraint t (c j f))
  said-position c letter j f i d r =
      let fs : List Bytes = letter ∷ i.position ∷ i.fact ∷ [] in
      grind (arith, nat_tests, said-number fs 2 0 (arity t) j i.placed, said_old fs 3 (fact_of t) f i.form (names_index i.fact t.facts f d i.named), r)

  pub said_constraint : (x : Constraint) → T (allowed s (kind_for x)) → IsConstraint t (arity t) l x → Distinct t.facts → length (last_method t).constraints < 4 → Lined s t l (kind_for x) (add_constraint t x)
  said_constraint (Before j f) h i d r = lined kind.Before _ _ refl refl h i.written (said-position Before (codes "B") j f i d r)
  said_constraint (After j f) h i d r = lined kind.After _ _ refl refl h i.written (said-position After (codes "P") j f i d r)
  said_constraint (Between b f j) h i d r =
      let fs : List Bytes = codes "K" ∷ i.from ∷ i.fact ∷ i.to ∷ [] in
      lined kind.Between fs _ refl refl h i.written (grind (arith, nat_tests, said-number fs 2 1 (arity t) b i.first, said_old fs 3 (fact_of t) f i.form (names_index i.fact t.facts f d i.named), said-number fs 4 (suc b) (arity t) j i.second, r))
