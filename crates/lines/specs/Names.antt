-- names that a field has, and what is looked up of them
use Rattle.std.specs.Prelude.{◌≡◌, ℕ, Ok, Err, Option, Result}
use Rattle.fields.specs.Text.{Bytes}
use Rattle.fields.specs.Read.{Read}
use Rattle.fields.specs.Held.{name_text, answered}
use Rattle.fields.specs.declared.name.Name.{Name}
use Rattle.fields.specs.declared.faults.LineFault.TheVariants.{Field}
use Rattle.reading.specs.Lines.{◌>>◌, must, is_none, found}
use Rattle.reading.specs.declared.faults.DomainFault.{DomainFault}
use Rattle.reading.specs.declared.faults.DomainFault.TheVariants.{Line, Declared, Undeclared}

-- what a field's name was looked up as gives the answer; a field that is no name gives its fault
abbrev pub NewName : {A : Type 0} → Read Bytes → (Bytes → Option A → Type 0) → ℕ → Result Name DomainFault → Type 0
NewName (Ok n) Finds k result = (x : Option _) × Finds n x × (answered name_text result ≡ (must (is_none x) (Declared k) >> Ok n))
NewName (Err e) Finds k result = answered name_text result ≡ Err (Line (Field e))

abbrev pub OldName : {A : Type 0} → Read Bytes → (Bytes → Option A → Type 0) → ℕ → Result A DomainFault → Type 0
OldName (Ok n) Finds k result = (x : Option _) × Finds n x × (result ≡ found x (Undeclared k))
OldName (Err e) Finds k result = result ≡ Err (Line (Field e))
