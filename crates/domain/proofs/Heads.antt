-- the head of a line, from what its parts answer
use Rattle.std.proofs.Common.{◌≡◌, ℕ, ◌≤◌, true, false, cond, ◌&&◌, eqb, leb, List, [], ◌∷◌, length, take, Some, Ok, Err, Option, Result, sym, refl, ap, ◌∙◌, arith, take_all}
use Rattle.std.proofs.lemmas.Bool.Decides.{nat_tests}
use Rattle.std.specs.Option.{ok_or}
use Rattle.fields.specs.Text.{Bytes, fields, at}
use Rattle.fields.specs.declared.faults.LineFault.{LineFault}
use Rattle.fields.specs.declared.faults.LineFault.TheVariants.{Letter, Count}
use Rattle.reading.specs.Lines.{Check, ◌>>◌, must, found}
use Rattle.reading.specs.Reading.{kind_of, allowed, group, field_count, head}
use Rattle.reading.specs.declared.faults.DomainFault.TheVariants.{Line}
use Rattle.reading.specs.declared.kinds.Kind.{Kind}
use Rattle.reading.specs.declared.kinds.Section.{Section}
use Rattle.reading.proofs.Checks.{step, pass, fail}
use Rattle.domain.specs.Steps.{kind_in, section_after}

kind_is : (o : Option Kind) (c : Kind) → ◌≡◌ {A = Result Kind LineFault} (Ok c) (ok_or o Letter) → o ≡ Some c
kind_is o c e = grind arith

after_no : (s : Section) (c : Kind) (g : LineFault) → Err g ≡ section_after s c → (allowed s c ≡ false) × (g ≡ Letter)
after_no s c g e = grind arith

pub after_is : (s : Section) (c : Kind) (r : Section) → Ok r ≡ section_after s c → (allowed s c ≡ true) × (r ≡ group c)
after_is s c r e = grind arith

first-at : (fs : List Bytes) → at (take 5 fs) 1 ≡ at fs 1
first-at [] = refl
first-at (f ∷ fs) = refl

at_most_five : (c : Kind) → field_count c ≤ 5
at_most_five c = grind arith

module _ (l : Bytes) (five : List Bytes) (first : five ≡ take 5 (fields l)) (f : Bytes) (at_one : f ≡ at five 1) where
  found_kind : (c : Kind) → Ok c ≡ kind_in f → found (kind_of (at (fields l) 1)) (Line Letter) ≡ Ok c
  found_kind c is =
      ap (λ (g : Bytes). found (kind_of g) (Line Letter)) (sym (first-at (fields l)) ∙ ap (λ (fs : List Bytes). at fs 1) (sym first) ∙ sym at_one)
      ∙ ap (λ (o : Option Kind). found o (Line Letter)) (kind_is (kind_of f) c is)

  -- the letter may not stand here
  pub head_out : (s : Section) (c : Kind) (g : LineFault) → Ok c ≡ kind_in f → Err g ≡ section_after s c → head s l ≡ Err (Line g)
  head_out s c g is e = let q = after_no s c g e in step _ (found_kind c is) (fail (Line Letter) _ q.0) ∙ ap (λ (h : LineFault). Err (Line h)) (sym q.1)

module _ (l : Bytes) (five : List Bytes) (first : five ≡ take 5 (fields l)) (n len : ℕ) (count : n ≡ length (fields l)) (long : len ≡ length l) (c : Kind) (k : ℕ) (wanted : k ≡ field_count c) where
  abbrev counting : Result (Unit {0}) LineFault
  counting = cond (eqb n k && leb len 255) (Ok tt) (Err (Count n))

  abbrev counted : Check Kind
  counted = must (eqb (length (fields l)) (field_count c) && leb (length l) 255) (Line (Count (length (fields l)))) >> Ok c

  -- a line of the right number of fields has no others
  pub all-fields : Ok tt ≡ counting → five ≡ fields l
  all-fields e = let q : n ≡ k = grind (arith, nat_tests) in first ∙ take_all 5 (fields l) (omega (arith, q, at_most_five c))

  module _ (s : Section) (f : Bytes) (at_one : f ≡ at five 1) (is : Ok c ≡ kind_in f) (here : allowed s c ≡ true) where
    pub head_ok : Ok tt ≡ counting → head s l ≡ Ok c
    head_ok e = let q : counted ≡ Ok c = grind (arith, nat_tests) in step _ (found_kind l five first f at_one c is) (pass (Line Letter) here q)

    pub head_no : (g : LineFault) → Err g ≡ counting → head s l ≡ Err (Line g)
    head_no g e = let q : counted ≡ Err (Line g) = grind (arith, nat_tests) in step _ (found_kind l five first f at_one c is) (pass (Line Letter) here q)
