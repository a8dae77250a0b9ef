-- a text is accepted exactly when it declares what it closes with
use Rattle.std.proofs.Common.{◌≡◌, ℕ, ◌<◌, ◌≤◌, T, List, [], ◌∷◌, ◌++◌, map, length, codes, sym, refl, ap, subst, append_assoc, append-nil, arith, length-append}
use Rattle.std.proofs.lemmas.Bool.Decides.{nat_tests}
use Rattle.fields.specs.Text.{Bytes}
use Rattle.theory.specs.Model.{Method, no_method}
use Rattle.theory.specs.declared.Constraint.{Constraint}
use Rattle.reading.specs.declared.kinds.Kind.{Kind}
use Rattle.reading.specs.declared.kinds.Kind.TheVariants as kind
use Rattle.reading.specs.declared.kinds.Section.{Section}
use Rattle.reading.specs.declared.kinds.Section.TheVariants.{Facts, Actions, Tasks, Methods}
use Rattle.reading.specs.Tables.{Tables, empty, ActionEntry, TaskEntry, constrained, add_constraint}
use Rattle.reading.specs.Lines.{last_method}
use Rattle.reading.specs.Reading.{group, allowed}
use Rattle.reading.specs.Declares.{Each, Distinct, IsFact, IsAction, IsTask, IsConstraint, IsMethod, Block, block_lines, Declares, TextDeclares}
use Rattle.reading.proofs.Alls.{each_length}
use Rattle.reading.proofs.Lookups.{distinct_left, distinct_mid, symbols}
use Rattle.reading.proofs.Said.{bare, kind_for, said-fact, said_action, said_task, said_method, said_constraint, said_closing}
use Rattle.reading.proofs.Groups.{tables, with, last_of, on_last_lem, action_moved, constraint_moved, method_moved, task_names_lem, action_names_lem, ends_declares}
use Rattle.reading.proofs.Ends.{Ends, goes_ends, ends_goes}

-- among methods each constraint may stand
constraint_here : (x : Constraint) → T (allowed Methods (kind_for x))
constraint_here x = grind arith

constraint_group : (x : Constraint) → Methods ≡ group (kind_for x)
constraint_group x = grind arith

-- lines that are entries of one table, each of which is accepted before the lines that follow
module _ {A : Type 0} (R : Bytes → A → Type 0) (P : List A → List Bytes → Type 0) (Fits : List A → Type 0)
    (step : (xs new : List A) (x : A) (l : Bytes) (rest : List Bytes) → R l x → Fits (xs ++ x ∷ new) → P (xs ++ x ∷ []) rest → P xs (l ∷ rest)) where
  entries_end : (ls rest : List Bytes) (new xs : List A) → Each R ls new → Fits (xs ++ new) → P (xs ++ new) rest → P xs (ls ++ rest)
  entries_end [] rest [] xs i f p = subst (λ (xs : List A). P xs rest) (append-nil xs) p
  entries_end [] rest (x ∷ new) xs i f p = elim i [ ]
  entries_end (l ∷ ls) rest [] xs i f p = elim i [ ]
  entries_end (l ∷ ls) rest (x ∷ new) xs i f p =
      let q = sym (append_assoc xs (x ∷ []) new) in
      step xs new x l (ls ++ rest) i.0 f (entries_end ls rest new (xs ++ x ∷ []) i.1 (subst Fits q f) (subst (λ (xs : List A). P xs rest) q p))

-- a list that goes on has room
before_more : {A : Type 0} (xs : List A) (x : A) (new : List A) (most : ℕ) → length (xs ++ x ∷ new) ≤ most → length xs < most
before_more xs x new most h = omega (arith, h, length-append xs (x ∷ new))

module _ (F : List Bytes) (A : List ActionEntry) (K : List TaskEntry) where
  below-ends : (M : List Method) → Distinct F → (ms : List Method) (m : Method) (below rest : List Bytes) (u : Tables) → Each (IsConstraint (tables F A K M) (length m.subtasks)) below m.constraints
      → length m.constraints ≤ 4 → Ends Methods (tables F A K (ms ++ m ∷ [])) rest u → Ends Methods (tables F A K (ms ++ bare m ∷ [])) (below ++ rest) u
  below-ends M n ms m below rest u h r e =
      entries_end (IsConstraint (tables F A K M) (length m.subtasks)) (λ cs ls. Ends Methods (tables F A K (ms ++ with m cs ∷ [])) ls u) (λ cs. length cs ≤ 4) one below rest m.constraints [] h r e
    where
      one : (cs new : List Constraint) (c : Constraint) (l : Bytes) (rest : List Bytes) → IsConstraint (tables F A K M) (length m.subtasks) l c → length (cs ++ c ∷ new) ≤ 4
          → Ends Methods (tables F A K (ms ++ with m (cs ++ c ∷ []) ∷ [])) rest u → Ends Methods (tables F A K (ms ++ with m cs ∷ [])) (l ∷ rest) u
      one cs new c l rest h r e =
          let w = tables F A K (ms ++ with m cs ∷ []) in
          let a : with m cs ≡ last_method w = sym (last_of no_method ms (with m cs)) in
          let i = subst (λ (x : Method). IsConstraint w (length x.subtasks) l c) a (constraint_moved F A K M (ms ++ with m cs ∷ []) (length m.subtasks) l c h) in
          let d = said_constraint Methods w l c (constraint_here c) i n (subst (λ (x : Method). length x.constraints < 4) a (before_more cs c new 4 r)) in (
            kind_for c,
            add_constraint w c,
            d,
            subst (λ (s : Section). Ends s (add_constraint w c) rest u) (constraint_group c)
                (subst (λ (M : List Method). Ends Methods (tables F A K M) rest u) (sym (on_last_lem (constrained c) ms (with m cs))) e),
          )

  blocks-ends : (M : List Method) → Distinct F → Distinct (symbols (tables F A K M)) → (bs : List Block) (new ms : List Method) (s : Section) → T (allowed s kind.Method)
      → Each (IsMethod (tables F A K M)) bs new → length (ms ++ new) ≤ 128 → Ends s (tables F A K ms) (block_lines bs ++ codes "E" ∷ []) (tables F A K (ms ++ new))
  blocks-ends M n p [] [] ms s a h r = (kind.Closing, tables F A K ms, said_closing s (tables F A K ms) (codes "E") (grind (arith, nat_tests)), (refl, ap (tables F A K) (sym (append-nil ms))))
  blocks-ends M n p [] (m ∷ new) ms s a h r = elim h [ ]
  blocks-ends M n p (b ∷ bs) [] ms s a h r = elim h [ ]
  blocks-ends M n p (b ∷ bs) (m ∷ new) ms s a h r =
      let i = h.0 in
      let q = append_assoc ms (m ∷ []) new in
      let d = said_method s (tables F A K ms) b.line (bare m) a (method_moved F A K M ms b m [] [] i tt (omega arith)) p (before_more ms m new 128 r) in
      let e = blocks-ends M n p bs new (ms ++ m ∷ []) Methods tt h.1 (subst (λ (xs : List Method). length xs ≤ 128) (sym q) r) in
      let c : length m.constraints ≤ 4 = omega (arith, i.room, each_length (IsConstraint (tables F A K M) (length m.subtasks)) b.below m.constraints i.constraints) in
      let g = below-ends M n ms m b.below (block_lines bs ++ codes "E" ∷ []) (tables F A K ((ms ++ m ∷ []) ++ new)) i.constraints c e in (
        kind.Method,
        tables F A K (ms ++ bare m ∷ []),
        d,
        subst (λ (ls : List Bytes). Ends Methods (tables F A K (ms ++ bare m ∷ [])) ls (tables F A K (ms ++ (m ∷ new)))) (sym (append_assoc b.below (block_lines bs) (codes "E" ∷ [])))
            (subst (λ (M : List Method). Ends Methods (tables F A K (ms ++ bare m ∷ [])) (b.below ++ (block_lines bs ++ codes "E" ∷ [])) (tables F A K M)) q g),
      )

-- from any group that a line of kind k may follow
abbrev From : Kind → Tables → Tables → List Bytes → Type 0
From k t u ls = (s : Section) → T (allowed s k) → Ends s t ls u

module _ (u : Tables) (F : List Bytes) (A : List ActionEntry) where
  tasks_end : (ls rest : List Bytes) (new : List TaskEntry) → Each IsTask ls new → Distinct (symbols (tables F A new [])) → length new ≤ 48 → From kind.Task (tables F A new []) u rest → From kind.Task (tables F A [] []) u (ls ++ rest)
  tasks_end ls rest new i n r =
      entries_end IsTask (λ K. From kind.Task (tables F A K []) u) (λ K. Distinct (symbols (tables F A K [])) × (length K ≤ 48)) (λ K new x l rest i f e s a.
      let g = distinct_mid (symbols (tables F A K [])) x.name (map (λ (e : TaskEntry). e.name) new) (subst Distinct (task_names_lem F A K (x ∷ new) []) f.0) in
      (kind.Task, tables F A (K ++ x ∷ []) [], said_task s (tables F A K []) l x a i g (before_more K x new 48 f.1), e Tasks tt)) ls rest new [] i (n, r)

module _ (u : Tables) (F : List Bytes) (p : Distinct F) where
  actions_end : (t : Tables) (ls rest : List Bytes) (new : List ActionEntry) → Each (IsAction (tables F t.actions t.tasks t.methods)) ls new → Distinct (symbols (tables F new [] [])) → length new ≤ 64
      → From kind.Action (tables F new [] []) u rest → From kind.Action (tables F [] [] []) u (ls ++ rest)
  actions_end t ls rest new i n r =
      entries_end (IsAction (tables F t.actions t.tasks t.methods)) (λ A. From kind.Action (tables F A [] []) u) (λ A. Distinct (symbols (tables F A [] [])) × (length A ≤ 64)) (λ A new x l rest i f e s a.
      let g = distinct_mid (symbols (tables F A [] [])) x.name (map (λ (a : ActionEntry). a.name) new) (subst Distinct (action_names_lem F A (x ∷ new) []) f.0) in
      let m = action_moved F t.actions A t.tasks [] t.methods [] l x i in
      (kind.Action, tables F (A ++ x ∷ []) [] [], said_action s (tables F A [] []) l x a m p g (before_more A x new 64 f.1), e Actions tt)) ls rest new [] i (n, r)

facts_end : (u : Tables) (ls rest new : List Bytes) → Each IsFact ls new → Distinct new → length new ≤ 64 → From kind.Fact (tables new [] [] []) u rest → From kind.Fact (tables [] [] [] []) u (ls ++ rest)
facts_end u ls rest new i n r =
    entries_end IsFact (λ F. From kind.Fact (tables F [] [] []) u) (λ F. Distinct F × (length F ≤ 64)) (λ F new x l rest i f e s a.
    (kind.Fact, tables (F ++ x ∷ []) [] [] [], said-fact s (tables F [] [] []) l x a i (distinct_mid F x new f.0) (before_more F x new 64 f.1), e Facts tt)) ls rest new [] i (n, r)

-- a text that declares these tables is accepted, and closes with them
declares_ends : (text : List Bytes) (t : Tables) → Declares text t → Ends Facts (tables [] [] [] []) text t
declares_ends text t d =
    let F = t.facts in
    let A = t.actions in
    let K = t.tasks in
    let n = distinct_left (symbols (tables F A [] [])) (map (λ (e : TaskEntry). e.name) K) (subst Distinct (task_names_lem F A [] K []) d.symbol_names) in
    subst (λ (ls : List Bytes). Ends Facts (tables [] [] [] []) ls t) (sym d.order)
    (facts_end t d.fact_lines _ F d.facts d.fact_names d.few_facts
    (λ s a. actions_end t F d.fact_names t d.action_lines _ A d.actions n d.few_actions
    (λ s a. tasks_end t F A d.task_lines _ K d.tasks d.symbol_names d.few_tasks
    (λ s a. blocks-ends F A K t.methods d.fact_names d.symbol_names d.blocks t.methods [] s (grind (arith, nat_tests)) d.methods d.few_methods)
    s (grind (arith, nat_tests))) s (grind (arith, nat_tests)))
    Facts tt)

pub text_declares : TextDeclares
text_declares text t = ((λ h. ends_declares text t (goes_ends text Facts empty 0 t h)), (λ d. ends_goes text Facts empty 0 t (declares_ends text t d)))
