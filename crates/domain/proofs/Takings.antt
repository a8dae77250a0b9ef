-- one step of the reader, from its parts
use Rattle.std.proofs.Common.{arith, ◌≡◌, true, List, is_err, IsErrAnd, Ok, Err, Result, sym, ap, ◌∙◌}
use Rattle.fields.specs.Text.{Bytes, fields}
use Rattle.reading.specs.Lines.{Check}
use Rattle.reading.specs.Reading.{declared, group, head, line}
use Rattle.reading.specs.Tables.{Tables}
use Rattle.reading.specs.declared.faults.DomainFault.{DomainFault}
use Rattle.reading.specs.declared.kinds.Kind.{Kind}
use Rattle.reading.specs.declared.kinds.Section.{Section}
use Rattle.reading.proofs.Checks.{step, stop}
use Rattle.domain.specs.Held.{domain_tables}
use Rattle.domain.specs.Steps.{Beside, Taken}
use Rattle.domain.specs.declared.reader.Reader.{Reader}

-- a fault passed up: what it was turned into, and that nothing has changed
pub taken_err : (r : Result (Unit {0}) DomainFault) (old new : Reader) (c : Check (Section × Tables)) (P : DomainFault → Type 0) → (is_err r ≡ true) × IsErrAnd r P → ((e : DomainFault) → P e → c ≡ Err e)
    → new.section ≡ old.section → domain_tables new.domain ≡ domain_tables old.domain → Beside old new → Taken r old new c
taken_err r old new c P h q s d b = grind arith

module _ (s : Section) (t : Tables) (l : Bytes) where
  pub line-head : (e : DomainFault) → head s l ≡ Err e → line s t l ≡ Err e
  line-head e h = stop _ h

  module _ (c : Kind) (fs : List Bytes) (is : head s l ≡ Ok c) (all : fs ≡ fields l) where
    pub line-declared : (u : Tables) (r : Section) → declared c t fs ≡ Ok u → r ≡ group c → line s t l ≡ Ok (r, u)
    line-declared u r d g = step _ is (step (λ u. Ok (group c, u)) (ap (declared c t) (sym all) ∙ d) (ap (λ (g : Section). Ok (g, u)) (sym g)))

    pub line_refused : (e : DomainFault) → declared c t fs ≡ Err e → line s t l ≡ Err e
    line_refused e d = step _ is (stop (λ u. Ok (group c, u)) (ap (declared c t) (sym all) ∙ d))
