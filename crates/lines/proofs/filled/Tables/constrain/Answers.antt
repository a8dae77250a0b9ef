use Rattle.std.proofs.Common.{◌≡◌, ℕ, suc, ◌-◌, ◌<◌, ltb, List, map, length, get_or, Ok, vec_items, vec_len, sym, refl, ap, ◌∙◌, arith}
use Rattle.theory.specs.declared.Constraint.{Constraint}
use Rattle.theory.specs.Model.{Method as Way, no_method}
use Rattle.reading.specs.Tables.{constrained, last_or}
use Rattle.reading.specs.declared.faults.DomainFault.TheVariants.{Full}
use Rattle.reading.proofs.Checks.{pass, fail}
use Rattle.tables.specs.Held.{few_items, method_entry}
use Rattle.tables.specs.declared.entries.Method.{Method}
use Rattle.lines.specs.Closes.{meant}
use Rattle.lines.proofs.Lasts.{last_at, set_last, set_same}
use Rattle.lines.proofs.Takes.{with_some, with_none}
use Rattle.lines.proofs.filled.Tables.constrain.Goals as goal

-- the last method as the table has it
module _ (xs : List Method) (n : ℕ) (m : Method) (len : n ≡ length xs) (some : 0 < n) (is : m ≡ get_or xs (n - 1) m) where
  last_is : last_or no_method (map method_entry xs) ≡ method_entry m
  last_is =
      let q : n - 1 ≡ length xs - 1 = omega arith in
      last_at method_entry no_method xs m (omega arith) (is ∙ ap (λ (k : ℕ). get_or xs k m) q)

  room-is : ltb (length (last_or no_method (map method_entry xs)).constraints) 4 ≡ ltb (length (few_items m.constraints)) 4
  room-is = ap (λ (w : Way). ltb (length w.constraints) 4) last_is

pub returns-in_default-with : goal.returns-in_default-with
returns-in_default-with c =
    let t = meant c.args.self.now in
    let v = c.args.self.now.methods in
    let f = c.in-Some.ensures in
    let m : Method = c.in-Some.method.now in (
      fail Full _ (room-is (vec_items v) (vec_len v) m v.ok.0 (f.variant.0 refl) f.value ∙ with_none _ _ c.in_default-with.ensures),
      ap (λ (ms : List Way). record { facts = t.facts; actions = t.actions; tasks = t.tasks; methods = ms }) (set_same method_entry (vec_items v) (vec_len v - 1) m m (ap method_entry f.value)),
      c.requires,
    )

pub returns : goal.returns
returns c =
    let t = meant c.args.self.now in
    let v = c.args.self.now.methods in
    let f = c.in-Some.ensures in
    let m : Method = c.in-Some.method.now in
    let w = with_some _ _ (few_items c.in-Some-with.more) c.in-Some-with.ensures in
    let h : length (vec_items v) ≡ suc (vec_len v - 1) = omega (arith, v.ok.0, f.variant.0 refl) in (
      pass Full (room-is (vec_items v) (vec_len v) m v.ok.0 (f.variant.0 refl) f.value ∙ w.1)
          (ap (λ (ms : List Way). Ok (record { facts = t.facts; actions = t.actions; tasks = t.tasks; methods = ms }))
          (sym (set_last method_entry (constrained c.args.c) (vec_items v) (vec_len v - 1) _ m h
          (ap (λ (l : List Constraint). record { owner = m.task; price = m.price; grade = m.grade; subtasks = few_items m.subtasks; constraints = l }) w.0
          ∙ ap (λ (x : Method). constrained c.args.c (method_entry x)) f.value)))),
      c.requires,
    )
