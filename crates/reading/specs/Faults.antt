-- the number, the layer and the field that each refusal of a line is reported with, and its text
use Rattle.std.specs.Prelude.{ℕ, List, [], ◌∷◌, codes, decimal}
use Rattle.fields.specs.Text.{Bytes, joined, tab}
use Rattle.fields.specs.declared.faults.FieldCause.{FieldCause}
use Rattle.fields.specs.declared.faults.FieldCause.TheVariants.{Form, Range}
use Rattle.fields.specs.declared.faults.LineFault.{LineFault}
use Rattle.fields.specs.declared.faults.LineFault.TheVariants.{Letter, Count, Field}
use Rattle.reading.specs.declared.faults.DomainFault.{DomainFault}
use Rattle.reading.specs.declared.faults.DomainFault.TheVariants.{Line, Declared, Undeclared, Full, Clash, Mark, Ladder}
use Rattle.reading.specs.declared.faults.Fault.{Fault}

pub record Report : Type 0 where
  pub number : ℕ
  pub layer : ℕ
  pub field : ℕ

abbrev pub report : ℕ → ℕ → ℕ → Report
report n l f = record { number = n; layer = l; field = f }

-- layer 1: not of its form, or outside its range
abbrev pub reported_field : FieldCause → ℕ → Report
reported_field Form k = report 1 1 k
reported_field Range k = report 6 1 k

-- layer 2: the letter, or the number of fields (that of the fields found)
abbrev pub reported_line : LineFault → Report
reported_line Letter = report 3 2 1
reported_line (Count n) = report 2 2 n
reported_line (Field f) = reported_field f.cause f.field

-- layer 3: what the domain says
abbrev pub reported : DomainFault → Report
reported (Line l) = reported_line l
reported (Declared k) = report 4 3 k
reported (Undeclared k) = report 5 3 k
reported Full = report 7 3 1
reported Clash = report 8 3 5
reported Mark = report 9 3 5
reported Ladder = report 10 3 5

-- the fields that a refusal is reported by: the letter R, its number, layer, line and field
abbrev pub fault_fields : Fault → List Bytes
fault_fields f =
    codes "R" ∷ decimal (reported f.cause).number ∷ decimal (reported f.cause).layer
    ∷ decimal f.line ∷ decimal (reported f.cause).field ∷ []

-- the text of a refusal, without the end of its line
abbrev pub fault_text : Fault → Bytes
fault_text f = joined tab (fault_fields f)
