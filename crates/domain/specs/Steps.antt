-- the parts of one step of the reader
use Rattle.std.specs.Prelude.{◌≡◌, cond, Ok, Err, Result}
use Rattle.std.specs.Borrow.{Bor}
use Rattle.std.specs.Option.{ok_or}
use Rattle.fields.specs.Text.{Bytes}
use Rattle.fields.specs.declared.faults.LineFault.{LineFault}
use Rattle.fields.specs.declared.faults.LineFault.TheVariants.{Letter}
use Rattle.reading.specs.Lines.{Check}
use Rattle.reading.specs.Reading as plain
use Rattle.reading.specs.Tables.{Tables}
use Rattle.reading.specs.declared.faults.DomainFault.{DomainFault}
use Rattle.reading.specs.declared.kinds.Kind.{Kind}
use Rattle.reading.specs.declared.kinds.Section.{Section}
use Rattle.domain.specs.Held.{domain_tables}
use Rattle.domain.specs.declared.domain.Domain.{Domain}
use Rattle.domain.specs.declared.reader.Reader.{Reader}

abbrev pub told : Bor Domain → Tables
told d = domain_tables d.now

abbrev pub kind_in : Bytes → Result Kind LineFault
kind_in f = ok_or (plain.kind_of f) Letter

abbrev pub section_after : Section → Kind → Result Section LineFault
section_after s c = cond (plain.allowed s c) (Ok (plain.group c)) (Err Letter)

-- a fault at the line read last
abbrev pub refusing : Reader → DomainFault → plain.Reader
refusing r f = plain.faulted r.section (domain_tables r.domain) r.lines f

-- what a line says where this reader stands
abbrev pub line_in : Reader → Bytes → Check (Section × Tables)
line_in r l = plain.line r.section (domain_tables r.domain) l

-- the count of lines and the first fault have not changed
abbrev pub Beside : Reader → Reader → Type 0
Beside old new = (new.lines ≡ old.lines) × (new.refused ≡ old.refused)

-- a line's answer, the group and the tables after it are those of its definition; a refusal leaves both as they were
abbrev pub Taken : Result (Unit {0}) DomainFault → Reader → Reader → Check (Section × Tables) → Type 0
Taken (Ok x) old new c = (c ≡ Ok (new.section, domain_tables new.domain)) × Beside old new
Taken (Err e) old new c = (c ≡ Err e) × (new.section ≡ old.section) × (domain_tables new.domain ≡ domain_tables old.domain) × Beside old new
