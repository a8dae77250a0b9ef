use Rattle.std.proofs.Common.{◌≡◌, ◌-◌, ◌<◌, List, length, get_or, vec_items, sym, ap, ◌∙◌, arith, ltb-true}
use Rattle.theory.specs.Model.{Method as Way, no_method}
use Rattle.tables.specs.Held.{method_entry}
use Rattle.tables.specs.declared.entries.Method.{Method}
use Rattle.lines.proofs.Lasts.{last_at}
use Rattle.lines.proofs.filled.Tables.arity.Goals as goal

pub returns-in-Some-clause-value : goal.returns-in-Some-clause-value
returns-in-Some-clause-value c =
    let xs : List Method = vec_items c.args.self.now.methods in
    let m : Method = c.in-Some.m.now in
    let v = c.deref.ensures.value in
    let i = c.in-Some.ensures.item in
    let h : 0 < length xs = omega (arith, ltb-true _ _ (sym i.0), ap length v) in
    let e : m ≡ get_or xs (length xs - 1) m = i.1 ∙ ap (λ (l : List Method). get_or l (length l - 1) m) v in
    ap length c.as_slice.ensures.items ∙ sym (ap (λ (w : Way). length w.subtasks) (last_at method_entry no_method xs m h e))
