-- a row of fields
use Rattle.std.proofs.Common.{◌≡◌, List, [], ◌∷◌, ◌++◌, refl, ap, ◌∙◌, append_assoc}
use Rattle.fields.specs.Text.{Bytes, joined, tab}
use Rattle.report.specs.Report.{row}

pub row_joined : (fs : List Bytes) → joined tab fs ++ 10 ∷ [] ≡ row fs
row_joined [] = refl
row_joined (f ∷ []) = refl
row_joined (f ∷ g ∷ fs) = append_assoc f (tab ∷ joined tab (g ∷ fs)) (10 ∷ []) ∙ ap (λ (b : Bytes). f ++ tab ∷ b) (row_joined (g ∷ fs))
