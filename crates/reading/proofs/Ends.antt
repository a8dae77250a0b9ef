-- an accepted text, line by line
use Rattle.std.proofs.Common.{◌≡◌, ℕ, List, [], ◌∷◌, Ok, Err, sym, refl, subst}
use Rattle.fields.specs.Text.{Bytes}
use Rattle.theory.specs.Lists.{All}
use Rattle.reading.specs.declared.kinds.Kind.{Kind}
use Rattle.reading.specs.declared.kinds.Section.{Section}
use Rattle.reading.specs.declared.kinds.Section.TheVariants.{Closed}
use Rattle.reading.specs.Tables.{Tables}
use Rattle.reading.specs.Lines.{Check}
use Rattle.reading.specs.Reading.{group, line, Reader, reading, Answer, counted, taken, after_all, answers}
use Rattle.reading.proofs.Said.{Lined, line_of, line_inv}

-- after a line of group s and with the tables t, these lines are accepted, and close with u
abbrev pub Ends : Section → Tables → List Bytes → Tables → Type 0
Ends s t [] u = (s ≡ Closed) × (t ≡ u)
Ends s t (l ∷ ls) u = (c : Kind) × (v : Tables) × Lined s t l c v × Ends (group c) v ls u

pub ended : (t : Tables) (ls : List Bytes) (u : Tables) → Ends Closed t ls u → (ls ≡ []) × (t ≡ u)
ended t [] u h = (refl, h.1)
ended t (l ∷ ls) u h = elim h.2.here [ ]

abbrev Goes : Reader → List Bytes → Tables → Type 0
Goes r ls u = All (λ (a : Answer). a ≡ Ok tt) (answers r ls) × ((n : ℕ) × (after_all r ls ≡ reading Closed u n))

-- from a line's answer on
abbrev From : Section → Tables → ℕ → List Bytes → Tables → Check (Section × Tables) → Type 0
From s t n ls u x =
    All (λ (a : Answer). a ≡ Ok tt) ((taken s t (counted n) x).0 ∷ answers (taken s t (counted n) x).1 ls) × ((m : ℕ) × (after_all (taken s t (counted n) x).1 ls ≡ reading Closed u m))

pub goes_ends : (ls : List Bytes) (s : Section) (t : Tables) (n : ℕ) (u : Tables) → Goes (reading s t n) ls u → Ends s t ls u
goes_ends [] s t n u h = (cc h.1.1, cc h.1.1)
goes_ends (l ∷ ls) s t n u h = go (goes_ends ls) (line s t l) refl h
  where
    go : ((s : Section) (t : Tables) (n : ℕ) (u : Tables) → Goes (reading s t n) ls u → Ends s t ls u) → (x : Check (Section × Tables)) → line s t l ≡ x → From s t n ls u x → Ends s t (l ∷ ls) u
    go ih (Ok (r, v)) e h =
        let c = line_inv s t l (r, v) e in
        (c.0, v, c.2, subst (λ (r : Section). Ends r v ls u) (sym c.1) (ih r v (counted n) u (h.0.1, h.1)))
    go ih (Err f) e h = absurd (cc h.0.0)

pub ends_goes : (ls : List Bytes) (s : Section) (t : Tables) (n : ℕ) (u : Tables) → Ends s t ls u → Goes (reading s t n) ls u
ends_goes [] s t n u h = let p = h.0 in let q = h.1 in (tt, (n, cc))
ends_goes (l ∷ ls) s t n u (c, v, d, e) =
    let h = ends_goes ls (group c) v (counted n) u e in
    subst (From s t n ls u) (sym (line_of s t l c v d)) ((refl, h.0), h.1)
