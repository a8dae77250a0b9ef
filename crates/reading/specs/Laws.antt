-- what holds over whole texts
use Rattle.std.specs.Prelude.{◌≡◌, ℕ, ◌+◌, ◌-◌, ◌^◌, min, T, List, [], ◌∷◌, ◌++◌, length, Err}
use Rattle.fields.specs.Text.{Bytes}
use Rattle.fields.specs.declared.faults.LineFault.TheVariants.{Letter}
use Rattle.theory.specs.Lists.{All}
use Rattle.reading.specs.declared.faults.DomainFault.TheVariants.{Line}
use Rattle.reading.specs.declared.faults.Fault.{Fault}
use Rattle.reading.specs.declared.kinds.Section.TheVariants.{Closed}
use Rattle.reading.specs.Tables.{Tables}
use Rattle.reading.specs.Sound.{Sound, sound}
use Rattle.reading.specs.Reading.{Answer, start, reads, after_all, answers, reading, fault_at, counted}

-- the domain that a text closes with
abbrev pub ClosesWith : List Bytes → Tables → ℕ → Type 0
ClosesWith text t n = after_all start text ≡ reading Closed t n

-- once a line is refused before the closing one, each further line gets that fault
abbrev pub FirstFaultStays : Type 0
FirstFaultStays =
    (us : List Bytes) (l : Bytes) (vs : List Bytes) (f : Fault) → ((t : Tables) (n : ℕ) → ClosesWith us t n → ⊥)
    → (reads (after_all start us) l).0 ≡ Err f → All (λ (a : Answer). a ≡ Err f) (answers (reads (after_all start us) l).1 vs)

-- the letter fault at each line, after the first n of them
abbrev pub letter_faults : ℕ → List Bytes → List Answer
letter_faults n [] = []
letter_faults n (l ∷ ls) = Err (fault_at (Line Letter) (counted n)) ∷ letter_faults (counted n) ls

-- after the closing line each line gets the letter fault, and the tables stay; the line numbers go on from 1
abbrev pub ClosedStays : Type 0
ClosedStays =
    (us vs : List Bytes) (t : Tables) (n : ℕ) → ClosesWith us t n
    → (n ≡ min (length us) (2 ^ 64 - 1)) × ClosesWith (us ++ vs) t (min (length us + length vs) (2 ^ 64 - 1)) × (answers (after_all start us) vs ≡ letter_faults n vs)

-- a closed domain keeps the mark rule, the ladder rule and the ranges; so says the test that its type carries
abbrev pub ClosedIsSound : Type 0
ClosedIsSound =
    ((us : List Bytes) (t : Tables) (n : ℕ) → ClosesWith us t n → T (sound t)) × ((t : Tables) → T (sound t) → Sound t)
