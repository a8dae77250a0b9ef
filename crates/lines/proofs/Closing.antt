-- from the test that a domain's type carries to the facts, and back
use Rattle.std.proofs.Common.{arith, ◌≡◌, true, T, List, Ok, Err, Result, sym, subst}
use Rattle.fields.specs.Text.{Bytes}
use Rattle.reading.specs.Sound.{Sound, sound}
use Rattle.reading.specs.Reading.{declared}
use Rattle.reading.specs.Tables as plain
use Rattle.reading.specs.declared.faults.DomainFault.{DomainFault}
use Rattle.reading.specs.declared.kinds.Kind.{Kind}
use Rattle.reading.proofs.Keeps.{keeps}
use Rattle.reading.proofs.Sounds.{sound_decided}
use Rattle.lines.specs.declared.filled.Tables.{Tables}
use Rattle.lines.specs.Closes.{meant, roomy, closes}
use Rattle.lines.specs.Took.{Took}

module _ (t : Tables) where
  pub closed_sound : closes t ≡ true → T (sound (meant t))
  closed_sound e = grind arith

  pub closed_roomy : closes t ≡ true → roomy t ≡ true
  closed_roomy e = grind arith

  pub closed_of : T (sound (meant t)) → roomy t ≡ true → closes t ≡ true
  closed_of h e = grind arith

  pub closed_parts : closes t ≡ true → Sound (meant t)
  closed_parts e = (sound_decided (meant t)).0 (closed_sound e)

-- a line leaves a domain closed under its rules
pub took_closed : (kind : Kind) (fs : List Bytes) (r : Result (Unit {0}) DomainFault) (old new : Tables) → closes old ≡ true → Took r old new (declared kind (meant old) fs) → closes new ≡ true
took_closed kind fs (Ok x) old new h e = closed_of new (keeps kind (meant old) (meant new) fs e.0 (closed_sound old h)) e.1
took_closed kind fs (Err f) old new h e = closed_of new (subst (λ (t : plain.Tables). T (sound t)) (sym e.1) (closed_sound old h)) e.2
