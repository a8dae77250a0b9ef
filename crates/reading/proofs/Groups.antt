-- the parts of an accepted text: fact lines, action lines, task lines, methods with their constraints
use Rattle.std.proofs.Common.{◌≡◌, ℕ, ◌<◌, ◌≤◌, T, ◌⊎◌, inl, inr, List, [], ◌∷◌, ◌++◌, map, length, codes, sym, refl, ap, ◌∙◌, subst, append_assoc, append-nil, arith, length-append}
use mathlib.Core.List.{map-append}
use Rattle.std.proofs.lemmas.Bool.Decides.{nat_tests}
use Rattle.fields.specs.Text.{Bytes}
use Rattle.theory.specs.Model.{Method, no_method}
use Rattle.theory.specs.declared.Constraint.{Constraint}
use Rattle.reading.specs.declared.kinds.Kind.{Kind}
use Rattle.reading.specs.declared.kinds.Kind.TheVariants as kind
use Rattle.reading.specs.declared.kinds.Section.{Section}
use Rattle.reading.specs.declared.kinds.Section.TheVariants.{Facts, Actions, Tasks, Methods, Closed}
use Rattle.reading.specs.Tables.{Tables, ActionEntry, TaskEntry, constrained, on_last, last_or}
use Rattle.reading.specs.Lines.{last_method}
use Rattle.reading.specs.Reading.{group, allowed}
use Rattle.reading.specs.Declares.{Each, Distinct, IsFact, IsFactSet, IsAction, IsTask, IsConstraint, IsMethod, Block, block_lines, Declares}
use Rattle.reading.proofs.Alls.{each_length, each_map}
use Rattle.reading.proofs.Lookups.{distinct_more, symbols}
use Rattle.reading.proofs.Said.{Lined, alone, bare, Constrains, fact-said, action_said, task_said, method_said, before_said, after_said, between_said, closing_said}
use Rattle.reading.proofs.Ends.{Ends, ended}

abbrev pub tables : List Bytes → List ActionEntry → List TaskEntry → List Method → Tables
tables F A K M = record { facts = F; actions = A; tasks = K; methods = M }

-- a method with these constraints
abbrev pub with : Method → List Constraint → Method
with m cs = record { owner = m.owner; price = m.price; grade = m.grade; subtasks = m.subtasks; constraints = cs }

-- some entries, and then more of them, from the first of these lines; what the other lines are, Then says
record Part {A : Type 0} (R : Bytes → A → Type 0) (Then : List A → List Bytes → Type 0) (xs : List A) (ls : List Bytes) : Type 0 where
  lines : List Bytes
  new : List A
  rest : List Bytes
  order : ls ≡ lines ++ rest
  each : Each R lines new
  then : Then (xs ++ new) rest

module _ {A : Type 0} (R : Bytes → A → Type 0) (Then : List A → List Bytes → Type 0) (xs : List A) where
  none_more : (ls : List Bytes) → Then xs ls → Part R Then xs ls
  none_more ls h = record { lines = []; new = []; rest = ls; order = refl; each = tt; then = subst (λ (xs : List A). Then xs ls) (sym (append-nil xs)) h }

  one_more : (l : Bytes) (x : A) (ls : List Bytes) → R l x → Part R Then (xs ++ x ∷ []) ls → Part R Then xs (l ∷ ls)
  one_more l x ls r p =
      record {
        lines = l ∷ p.lines;
        new = x ∷ p.new;
        rest = p.rest;
        order = ap (λ (ls : List Bytes). l ∷ ls) p.order;
        each = (r, p.each);
        then = subst (λ (xs : List A). Then xs p.rest) (append_assoc xs (x ∷ []) p.new) p.then;
      }

-- The lines of kind k are the entries of one table, which fits as far as it is filled; a line of a later kind ends them.
module _ {A : Type 0} (R : Bytes → A → Type 0) (Then : List A → List Bytes → Type 0) (filled : List A → Tables) (Fits : List A → Type 0) (k : Kind) (Later : Kind → Type 0) (u : Tables)
    (unclosed : group k ≡ Closed → ⊥) (sorts : (c : Kind) → T (allowed (group k) c) → (c ≡ k) ⊎ Later c)
    (said : (p : Section) (xs : List A) (l : Bytes) (v : Tables) → Fits xs → Lined p (filled xs) l k v → (x : A) × R l x × Fits (xs ++ x ∷ []) × (filled (xs ++ x ∷ []) ≡ v))
    (ends : (p : Section) (xs : List A) (c : Kind) (l : Bytes) (v : Tables) (ls : List Bytes) → Fits xs → Later c → Lined p (filled xs) l c v → Ends (group c) v ls u → Then xs (l ∷ ls)) where
  part_line : (p : Section) (xs : List A) (c : Kind) (l : Bytes) (v : Tables) (ls : List Bytes) → ((xs : List A) → Fits xs → Ends (group k) (filled xs) ls u → Part R Then xs ls)
      → Fits xs → T (allowed (group k) c) → Lined p (filled xs) l c v → Ends (group c) v ls u → Part R Then xs (l ∷ ls)
  part_line p xs c l v ls ih f a d e = elim (sorts c a) [
    | inl q ↦
        let x = said p xs l v f (subst (λ (c : Kind). Lined p (filled xs) l c v) q d) in
        let g = subst (λ (c : Kind). Ends (group c) (filled (xs ++ x.0 ∷ [])) ls u) q (subst (λ (t : Tables). Ends (group c) t ls u) (sym x.3) e) in
        one_more R Then xs l x.0 ls x.1 (ih (xs ++ x.0 ∷ []) x.2 g)
    | inr b ↦ none_more R Then xs (l ∷ ls) (ends p xs c l v ls f b d e)
  ]

  part : (ls : List Bytes) (xs : List A) → Fits xs → Ends (group k) (filled xs) ls u → Part R Then xs ls
  part [] xs f e = absurd (unclosed e.0)
  part (l ∷ ls) xs f (c, v, d, e) = part_line (group k) xs c l v ls (part ls) f d.here d e

  first_part : (p : Section) (xs : List A) (c : Kind) (l : Bytes) (v : Tables) (ls : List Bytes) → Fits xs → T (allowed (group k) c) → Lined p (filled xs) l c v → Ends (group c) v ls u → Part R Then xs (l ∷ ls)
  first_part p xs c l v ls f a d e = part_line p xs c l v ls (part ls) f a d e

module _ {A : Type 0} where
  pub last_of : (d : A) (xs : List A) (x : A) → last_or d (xs ++ x ∷ []) ≡ x
  last_of d [] x = refl
  last_of d (y ∷ ys) x = last_of y ys x

  pub on_last_lem : (f : A → A) (xs : List A) (x : A) → on_last f (xs ++ x ∷ []) ≡ xs ++ f x ∷ []
  on_last_lem f [] x = refl
  on_last_lem f (y ∷ []) x = refl
  on_last_lem f (y ∷ z ∷ zs) x = ap (λ (r : List A). y ∷ r) (on_last_lem f (z ∷ zs) x)

-- what is said of a fact set speaks only of the facts
set_moved : (t u : Tables) (f : Bytes) (set : ℕ) → t.facts ≡ u.facts → IsFactSet t f set → IsFactSet u f set
set_moved t u f set e h = grind arith

module _ (F : List Bytes) where
  pub action_moved : (A B : List ActionEntry) (K L : List TaskEntry) (M N : List Method) (l : Bytes) (a : ActionEntry) → IsAction (tables F A K M) l a → IsAction (tables F B L N) l a
  action_moved A B K L M N l a h = grind (arith, set_moved (tables F A K M) (tables F B L N))

module _ (F : List Bytes) (A : List ActionEntry) (K : List TaskEntry) where
  pub constraint_moved : (M N : List Method) (k : ℕ) (l : Bytes) (x : Constraint) → IsConstraint (tables F A K M) k l x → IsConstraint (tables F A K N) k l x
  constraint_moved M N k l x h = grind arith

  -- a method's line, and other constraint lines below it
  pub method_moved : (M N : List Method) (b : Block) (m : Method) (below : List Bytes) (cs : List Constraint) → IsMethod (tables F A K M) b m
      → Each (IsConstraint (tables F A K N) (length m.subtasks)) below cs → length below ≤ 4 → IsMethod (tables F A K N) (record { line = b.line; below = below }) (with m cs)
  method_moved M N b m below cs h e r = grind arith

  -- the rest is methods and the closing line
  pub record Blocks (ms : List Method) (ls : List Bytes) (u : Tables) : Type 0 where
    pub blocks : List Block
    pub new : List Method
    pub order : ls ≡ block_lines blocks ++ codes "E" ∷ []
    pub is : tables F A K (ms ++ new) ≡ u
    pub each : Each (IsMethod (tables F A K [])) blocks new
    pub few : length (ms ++ new) ≤ 128

  -- first come more constraints of the last method m, which has cs
  abbrev Open : List Method → Method → Tables → List Constraint → List Bytes → Type 0
  Open ms m u = Part (IsConstraint (tables F A K []) (length m.subtasks)) (λ cs ls. (length cs ≤ 4) × Blocks (ms ++ with m cs ∷ []) ls u)

  abbrev Opens : List Bytes → Type 0
  Opens ls = (ms : List Method) (m : Method) (cs : List Constraint) (u : Tables) → length cs ≤ 4 → length (ms ++ with m cs ∷ []) ≤ 128 → Ends Methods (tables F A K (ms ++ with m cs ∷ [])) ls u → Open ms m u cs ls

  closing_blocks : (s : Section) (ms : List Method) (l : Bytes) (v : Tables) (ls : List Bytes) (u : Tables) → length ms ≤ 128 → Lined s (tables F A K ms) l kind.Closing v → Ends Closed v ls u → Blocks ms (l ∷ ls) u
  closing_blocks s ms l v ls u h d e =
      let c = closing_said s (tables F A K ms) l v d in
      let r = ended v ls u e in
      record {
        blocks = [];
        new = [];
        order = ap (λ (l : Bytes). l ∷ ls) c.0 ∙ ap (λ (ls : List Bytes). codes "E" ∷ ls) r.0;
        is = ap (tables F A K) (append-nil ms) ∙ c.1 ∙ r.1;
        each = tt;
        few = rw append-nil h;
      }

  method_blocks : (s : Section) (ms : List Method) (l : Bytes) (v : Tables) (ls : List Bytes) (u : Tables) → Opens ls → Lined s (tables F A K ms) l kind.Method v → Ends Methods v ls u → Blocks ms (l ∷ ls) u
  method_blocks s ms l v ls u ih d e =
      let x = method_said s (tables F A K ms) l v d in
      let m = x.0 in
      let o = ih ms m [] u (omega arith) (omega (arith, x.2, length-append ms (bare m ∷ []))) (subst (λ (t : Tables). Ends Methods t ls u) (sym x.3) e) in
      let b = o.then.1 in
      record {
        blocks = record { line = l; below = o.lines } ∷ b.blocks;
        new = with m o.new ∷ b.new;
        order = ap (λ (ls : List Bytes). l ∷ ls) (o.order ∙ ap (λ (ls : List Bytes). o.lines ++ ls) b.order ∙ sym (append_assoc o.lines (block_lines b.blocks) (codes "E" ∷ [])));
        is = ap (tables F A K) (sym (append_assoc ms (with m o.new ∷ []) b.new)) ∙ b.is;
        each = (method_moved ms [] (alone l) m o.lines o.new x.1 o.each (omega (arith, o.then.0, each_length (IsConstraint (tables F A K []) (length m.subtasks)) o.lines o.new o.each)), b.each);
        few = subst (λ (xs : List Method). length xs ≤ 128) (append_assoc ms (with m o.new ∷ []) b.new) b.few;
      }

  constraint_open : (ls : List Bytes) (ms : List Method) (m : Method) (cs : List Constraint) (l : Bytes) (v u : Tables) → Opens ls → length (ms ++ with m cs ∷ []) ≤ 128
      → Constrains Methods (tables F A K (ms ++ with m cs ∷ [])) l v → Ends Methods v ls u → Open ms m u cs (l ∷ ls)
  constraint_open ls ms m cs l v u ih h c e =
      let t = tables F A K (ms ++ with m cs ∷ []) in
      let x = c.0 in
      let q : last_method t ≡ with m cs = last_of no_method ms (with m cs) in
      let i = subst (λ (n : Method). IsConstraint t (length n.subtasks) l x) q c.1 in
      let r = subst (λ (n : Method). length n.constraints < 4) q c.2 in
      let a = length-append ms (with m cs ∷ []) in
      let b = length-append ms (with m (cs ++ x ∷ []) ∷ []) in
      one_more _ _ cs l x ls (constraint_moved (ms ++ with m cs ∷ []) [] (length m.subtasks) l x i)
      (ih ms m (cs ++ x ∷ []) u (omega (arith, r, length-append cs (x ∷ []))) (omega arith) (subst (λ (t : Tables). Ends Methods t ls u) (sym c.3 ∙ ap (tables F A K) (on_last_lem (constrained x) ms (with m cs))) e))

  opened : (ls : List Bytes) → Opens ls
  opened [] ms m cs u h k e = absurd (cc e.0)
  opened (l ∷ ls) ms m cs u h k (kind.Fact, v, d, e) = elim d.here [ ]
  opened (l ∷ ls) ms m cs u h k (kind.Action, v, d, e) = elim d.here [ ]
  opened (l ∷ ls) ms m cs u h k (kind.Task, v, d, e) = elim d.here [ ]
  opened (l ∷ ls) ms m cs u h k (kind.Method, v, d, e) = none_more _ _ cs (l ∷ ls) (h, method_blocks Methods (ms ++ with m cs ∷ []) l v ls u (opened ls) d e)
  opened (l ∷ ls) ms m cs u h k (kind.Before, v, d, e) = constraint_open ls ms m cs l v u (opened ls) k (before_said Methods (tables F A K (ms ++ with m cs ∷ [])) l v d) e
  opened (l ∷ ls) ms m cs u h k (kind.After, v, d, e) = constraint_open ls ms m cs l v u (opened ls) k (after_said Methods (tables F A K (ms ++ with m cs ∷ [])) l v d) e
  opened (l ∷ ls) ms m cs u h k (kind.Between, v, d, e) = constraint_open ls ms m cs l v u (opened ls) k (between_said Methods (tables F A K (ms ++ with m cs ∷ [])) l v d) e
  opened (l ∷ ls) ms m cs u h k (kind.Closing, v, d, e) = none_more _ _ cs (l ∷ ls) (h, closing_blocks Methods (ms ++ with m cs ∷ []) l v ls u k d e)

  -- the first block, or the closing line
  first-block : (p : Section) (c : Kind) (l : Bytes) (v : Tables) (ls : List Bytes) (u : Tables) → (c ≡ kind.Method) ⊎ (c ≡ kind.Closing) → Lined p (tables F A K []) l c v → Ends (group c) v ls u → Blocks [] (l ∷ ls) u
  first-block p c l v ls u (inl q) d e = method_blocks p [] l v ls u (opened ls) (subst (λ (c : Kind). Lined p (tables F A K []) l c v) q d) (subst (λ (c : Kind). Ends (group c) v ls u) q e)
  first-block p c l v ls u (inr q) d e = closing_blocks p [] l v ls u (omega arith) (subst (λ (c : Kind). Lined p (tables F A K []) l c v) q d) (subst (λ (c : Kind). Ends (group c) v ls u) q e)

-- one more name at the end
pub task_names_lem : (F : List Bytes) (A : List ActionEntry) (K new : List TaskEntry) (M : List Method)
    → symbols (tables F A (K ++ new) M) ≡ symbols (tables F A K M) ++ map (λ (e : TaskEntry). e.name) new
task_names_lem F A K new M = simp (map-append, append_assoc) refl

pub action_names_lem : (F : List Bytes) (A new : List ActionEntry) (M : List Method) → symbols (tables F (A ++ new) [] M) ≡ symbols (tables F A [] M) ++ map (λ (a : ActionEntry). a.name) new
action_names_lem F A new M = simp (map-append, append-nil) refl

-- first come task lines, then methods and the closing line
module _ (F : List Bytes) (A : List ActionEntry) (u : Tables) where
  abbrev TasksFit : List TaskEntry → Type 0
  TasksFit K = Distinct (symbols (tables F A K [])) × (length K ≤ 48)

  abbrev TaskPart : List Bytes → Type 0
  TaskPart = Part IsTask (λ K ls. TasksFit K × Blocks F A K [] ls u) []

  task_part : (p : Section) (c : Kind) (l : Bytes) (v : Tables) (ls : List Bytes) → TasksFit [] → T (allowed Tasks c) → Lined p (tables F A [] []) l c v → Ends (group c) v ls u → TaskPart (l ∷ ls)
  task_part p c l v ls f a d e =
      first_part IsTask (λ K ls. TasksFit K × Blocks F A K [] ls u) (λ K. tables F A K []) TasksFit kind.Task (λ c. (c ≡ kind.Method) ⊎ (c ≡ kind.Closing)) u (λ q. cc) (λ c a. grind (arith, nat_tests)) said
      (λ p K c l v ls f b d e. (f, first-block F A K p c l v ls u b d e)) p [] c l v ls f a d e
    where
      said : (p : Section) (K : List TaskEntry) (l : Bytes) (v : Tables) → TasksFit K → Lined p (tables F A K []) l kind.Task v → (x : TaskEntry) × IsTask l x × TasksFit (K ++ x ∷ []) × (tables F A (K ++ x ∷ []) [] ≡ v)
      said p K l v f d =
          let x = task_said p (tables F A K []) l v d in
          let n = subst Distinct (sym (task_names_lem F A K (x.0 ∷ []) [])) (distinct_more (symbols (tables F A K [])) x.0.name f.0 x.2) in
          (x.0, x.1, (n, omega (arith, x.3, length-append K (x.0 ∷ []))), x.4)

-- first come action lines
module _ (F : List Bytes) (u : Tables) where
  abbrev ActionsFit : List ActionEntry → Type 0
  ActionsFit A = Distinct (symbols (tables F A [] [])) × (length A ≤ 64)

  abbrev ActionPart : List Bytes → Type 0
  ActionPart = Part (IsAction (tables F [] [] [])) (λ A ls. ActionsFit A × TaskPart F A u ls) []

  action_part : (p : Section) (c : Kind) (l : Bytes) (v : Tables) (ls : List Bytes) → T (allowed Actions c) → Lined p (tables F [] [] []) l c v → Ends (group c) v ls u → ActionPart (l ∷ ls)
  action_part p c l v ls a d e =
      first_part (IsAction (tables F [] [] [])) (λ A ls. ActionsFit A × TaskPart F A u ls) (λ A. tables F A [] []) ActionsFit kind.Action (λ c. T (allowed Tasks c)) u (λ q. cc) (λ c a. grind (arith, nat_tests)) said
      (λ p A c l v ls f b d e. (f, task_part F A u p c l v ls (f.0, omega arith) b d e)) p [] c l v ls (tt, omega arith) a d e
    where
      said : (p : Section) (A : List ActionEntry) (l : Bytes) (v : Tables) → ActionsFit A → Lined p (tables F A [] []) l kind.Action v
          → (x : ActionEntry) × IsAction (tables F [] [] []) l x × ActionsFit (A ++ x ∷ []) × (tables F (A ++ x ∷ []) [] [] ≡ v)
      said p A l v f d =
          let x = action_said p (tables F A [] []) l v d in
          let n = subst Distinct (sym (action_names_lem F A (x.0 ∷ []) [])) (distinct_more (symbols (tables F A [] [])) x.0.name f.0 x.2) in
          (x.0, action_moved F A [] [] [] [] [] l x.0 x.1, (n, omega (arith, x.3, length-append A (x.0 ∷ []))), x.4)

-- first come fact lines
module _ (u : Tables) where
  abbrev FactsFit : List Bytes → Type 0
  FactsFit F = Distinct F × (length F ≤ 64)

  fact-part : (ls : List Bytes) → Ends Facts (tables [] [] [] []) ls u → Part IsFact (λ F ls. FactsFit F × ActionPart F u ls) [] ls
  fact-part ls e =
      part IsFact (λ F ls. FactsFit F × ActionPart F u ls) (λ F. tables F [] [] []) FactsFit kind.Fact (λ c. T (allowed Actions c)) u (λ q. cc) (λ c a. grind (arith, nat_tests)) said
      (λ p F c l v ls f b d e. (f, action_part F u p c l v ls b d e)) ls [] (tt, omega arith) e
    where
      said : (p : Section) (F : List Bytes) (l : Bytes) (v : Tables) → FactsFit F → Lined p (tables F [] [] []) l kind.Fact v → (x : Bytes) × IsFact l x × FactsFit (F ++ x ∷ []) × (tables (F ++ x ∷ []) [] [] [] ≡ v)
      said p F l v f d =
          let x = fact-said p (tables F [] [] []) l v d in
          (x.0, x.1, (distinct_more F x.0 f.0 x.2, omega (arith, x.3, length-append F (x.0 ∷ []))), x.4)

-- what an accepted text declares
pub ends_declares : (text : List Bytes) (u : Tables) → Ends Facts (tables [] [] [] []) text u → Declares text u
ends_declares text u e =
    let p = fact-part u text e in
    let q = p.then.1 in
    let r = q.then.1 in
    let b = r.then.1 in
    let F = p.new in
    let A = q.new in
    let K = r.new in
    subst (Declares text) b.is (record {
      fact_lines = p.lines;
      action_lines = q.lines;
      task_lines = r.lines;
      blocks = b.blocks;
      order = p.order ∙ ap (λ (ls : List Bytes). p.lines ++ ls) (q.order ∙ ap (λ (ls : List Bytes). q.lines ++ ls) (r.order ∙ ap (λ (ls : List Bytes). r.lines ++ ls) b.order));
      facts = p.each;
      actions = each_map (IsAction (tables F [] [] [])) (IsAction (tables F A K b.new)) (action_moved F [] A [] K [] b.new) q.lines A q.each;
      tasks = r.each;
      methods = each_map (IsMethod (tables F A K [])) (IsMethod (tables F A K b.new)) (λ x m h. method_moved F A K [] b.new x m x.below m.constraints h
          (each_map (IsConstraint (tables F A K []) (length m.subtasks)) (IsConstraint (tables F A K b.new) (length m.subtasks)) (constraint_moved F A K [] b.new (length m.subtasks)) x.below m.constraints h.constraints) h.room) b.blocks b.new b.each;
      fact_names = p.then.0.0;
      symbol_names = r.then.0.0;
      few_facts = p.then.0.1;
      few_actions = q.then.0.1;
      few_tasks = r.then.0.1;
      few_methods = b.few;
    })
