-- what holds over whole texts
use Rattle.std.proofs.Common.{◌≡◌, ℕ, ◌+◌, ◌-◌, ◌^◌, ◌≤◌, min, T, List, [], ◌∷◌, ◌++◌, length, Ok, Err, sym, refl, ap, ◌∙◌, subst, arith}
use Rattle.fields.specs.Text.{Bytes, fields}
use Rattle.fields.specs.declared.faults.LineFault.TheVariants.{Letter}
use Rattle.theory.specs.Lists.{All}
use Rattle.reading.specs.declared.faults.DomainFault.{DomainFault}
use Rattle.reading.specs.declared.faults.DomainFault.TheVariants.{Line}
use Rattle.reading.specs.declared.faults.Fault.{Fault}
use Rattle.reading.specs.declared.kinds.Section.{Section}
use Rattle.reading.specs.declared.kinds.Section.TheVariants.{Closed}
use Rattle.reading.specs.Tables.{Tables}
use Rattle.reading.specs.Lines.{Check}
use Rattle.reading.specs.Sound.{sound}
use Rattle.reading.specs.Reading.{group, declared, head, line, Reader, reading, refused, Answer, start, counted, fault_at, faulted, taken, reads, after_all, answers}
use Rattle.reading.specs.Laws.{ClosesWith, FirstFaultStays, letter_faults, ClosedStays, ClosedIsSound}
use Rattle.reading.proofs.Checks.{bound, ok_eq, stop}
use Rattle.reading.proofs.Keeps.{keeps}
use Rattle.reading.proofs.Sounds.{sound_decided}

-- a refusal before the closing line
refused_all : (f : Fault) (vs : List Bytes) → All (λ (a : Answer). a ≡ Err f) (answers (refused f) vs)
refused_all f [] = tt
refused_all f (v ∷ vs) = (refl, refused_all f vs)

faulted_open : (s : Section) (t : Tables) (n : ℕ) (d : DomainFault) → (s ≡ Closed → ⊥) → faulted s t n d ≡ refused (fault_at d n)
faulted_open s t n d o = grind arith

taken_refused : (s : Section) (t : Tables) (n : ℕ) (x : Check (Section × Tables)) (f : Fault) → (s ≡ Closed → ⊥) → (taken s t n x).0 ≡ Err f → (taken s t n x).1 ≡ refused f
taken_refused s t n x f o e = grind (arith, faulted_open s t n)

refuses : (r : Reader) (l : Bytes) (f : Fault) → ((t : Tables) (n : ℕ) → r ≡ reading Closed t n → ⊥) → (reads r l).0 ≡ Err f → (reads r l).1 ≡ refused f
refuses (reading s t n) l f o e = taken_refused s t (counted n) (line s t l) f (λ q. o t n (cc q)) e
refuses (refused g) l f o e = cc

pub first_fault_stays : FirstFaultStays
first_fault_stays us l vs f o e =
    subst (λ (r : Reader). All (λ (a : Answer). a ≡ Err f) (answers r vs)) (sym (refuses (after_all start us) l f o e)) (refused_all f vs)

-- no line is allowed after the closing one
closed_head : (l : Bytes) → head Closed l ≡ Err (Line Letter)
closed_head l = grind arith

closed_line : (t : Tables) (l : Bytes) → line Closed t l ≡ Err (Line Letter)
closed_line t l = stop _ (closed_head l)

-- the largest number that a count reaches
abbrev most : ℕ
most = 2 ^ 64 - 1

closed_all : (t : Tables) (n : ℕ) (vs : List Bytes) → n ≤ most → (after_all (reading Closed t n) vs ≡ reading Closed t (min (n + length vs) most)) × (answers (reading Closed t n) vs ≡ letter_faults n vs)
closed_all t n [] b = (ap (reading Closed t) (omega arith), refl)
closed_all t n (v ∷ vs) b =
    let h = closed_all t (counted n) vs (omega arith) in
    let e : min (counted n + length vs) most ≡ min (n + length (v ∷ vs)) most = omega arith in
    let q = ap (taken Closed t (counted n)) (closed_line t v) in
    (ap (λ x. after_all x.1 vs) q ∙ h.0 ∙ ap (reading Closed t) e, ap (λ x. x.0 ∷ answers x.1 vs) q ∙ ap (λ (z : List Answer). Err (fault_at (Line Letter) (counted n)) ∷ z) h.1)

after_more : (r : Reader) (us vs : List Bytes) → after_all r (us ++ vs) ≡ after_all (after_all r us) vs
after_more r [] vs = refl
after_more r (u ∷ us) vs = after_more (reads r u).1 us vs

-- after n lines, none refused: the count, and sound tables
abbrev Stands : ℕ → Reader → Type 0
Stands n (reading s t k) = (k ≡ n) × T (sound t)
Stands n (refused f) = Unit {0}

pub line-keeps : (s : Section) (t : Tables) (l : Bytes) (r : Section × Tables) → T (sound t) → line s t l ≡ Ok r → T (sound r.1)
line-keeps s t l r h e =
    let c = bound (head s l) _ r e in
    let d = bound (declared c.0 t (fields l)) (λ u. Ok (group c.0, u)) r c.2 in
    subst (λ (r : Section × Tables). T (sound r.1)) (ok_eq d.2) (keeps c.0 t d.0 (fields l) d.1 h)

module _ (t : Tables) (n : ℕ) (h : T (sound t)) where
  stands-faulted : (s : Section) (d : DomainFault) → Stands n (faulted s t n d)
  stands-faulted s d = grind arith

  stands-taken : (s : Section) (x : Check (Section × Tables)) → ((r : Section × Tables) → x ≡ Ok r → T (sound r.1)) → Stands n (taken s t n x).1
  stands-taken s x k = grind (arith, stands-faulted s)

stands-reads : (n : ℕ) (r : Reader) (l : Bytes) → Stands n r → Stands (counted n) (reads r l).1
stands-reads n (reading s t k) l (e, h) =
    subst (λ i. Stands (counted i) (taken s t (counted k) (line s t l)).1) e (stands-taken t (counted k) h s (line s t l) (λ r q. line-keeps s t l r h q))
stands-reads n (refused f) l h = tt

stands-all : (us : List Bytes) (n : ℕ) (r : Reader) → n ≤ most → Stands n r → Stands (min (n + length us) most) (after_all r us)
stands-all [] n r b h = let e : n ≡ min (n + 0) most = omega arith in subst (λ i. Stands i r) e h
stands-all (u ∷ us) n r b h =
    let e : min (counted n + length us) most ≡ min (n + length (u ∷ us)) most = omega arith in
    subst (λ i. Stands i (after_all r (u ∷ us))) e (stands-all us (counted n) (reads r u).1 (omega arith) (stands-reads n r u h))

closes : (us : List Bytes) (t : Tables) (n : ℕ) → ClosesWith us t n → (n ≡ min (0 + length us) most) × T (sound t)
closes us t n e = subst (Stands (min (0 + length us) most)) e (stands-all us 0 start (omega arith) (refl, tt))

pub closed_stays : ClosedStays
closed_stays us vs t n e =
    let c = (closes us t n e).0 in
    let h = closed_all t n vs (omega arith) in
    let k : min (n + length vs) most ≡ min (length us + length vs) most = omega arith in
    (omega arith, after_more start us vs ∙ ap (λ (r : Reader). after_all r vs) e ∙ h.0 ∙ ap (reading Closed t) k, ap (λ (r : Reader). answers r vs) e ∙ h.1)

pub closed_is_sound : ClosedIsSound
closed_is_sound = (λ us t n e. (closes us t n e).1, λ t. (sound_decided t).0)
