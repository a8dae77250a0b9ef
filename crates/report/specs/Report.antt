-- the line that a program prints of a refusal
use Rattle.std.specs.Prelude.{ℕ, List, [], ◌∷◌, ◌++◌, codes, decimal}
use Rattle.fields.specs.Text.{Bytes, tab}
use Rattle.reading.specs.Faults.{fault_fields}
use Rattle.reading.specs.declared.faults.Fault.{Fault}

-- fields with tabs between them, and a line feed
abbrev pub row : List Bytes → Bytes
row [] = 10 ∷ []
row (f ∷ []) = f ++ 10 ∷ []
row (f ∷ g ∷ fs) = f ++ tab ∷ row (g ∷ fs)

-- a refusal: its number, layer, line and field
abbrev pub refusal : Fault → Bytes
refusal f = row (fault_fields f)

-- a text without a closing line, after so many lines
abbrev pub unclosed : ℕ → Bytes
unclosed lines = row (codes "R" ∷ codes "11" ∷ codes "4" ∷ decimal lines ∷ codes "0" ∷ [])
