-- the reader that the code's reader stands for
use Rattle.std.specs.Prelude.{ℕ, Some, None, Option, Result}
use Rattle.fields.specs.declared.line.Line.{Line}
use Rattle.reading.specs.Reading as plain
use Rattle.reading.specs.Tables.{Tables}
use Rattle.reading.specs.declared.faults.DomainFault.{DomainFault}
use Rattle.reading.specs.declared.faults.Fault.{Fault}
use Rattle.reading.specs.declared.kinds.Kind.{Kind}
use Rattle.reading.specs.declared.kinds.Section.{Section}
use Rattle.reading.specs.declared.kinds.Section.TheVariants.{Facts, Actions, Tasks as TaskSection, Methods, Closed}
use Rattle.domain.specs.declared.domain.Domain.{Domain}
use Rattle.lines.specs.declared.filled.Tables as lines
use Rattle.domain.specs.declared.reader.Reader.{Reader}
use Rattle.lines.specs.Closes.{meant}
use Rattle.lines.specs.Took.{Declares}

abbrev pub tables_of : Domain → lines.Tables
tables_of d = d.lawful.tables

-- what a domain declares
abbrev pub domain_tables : Domain → Tables
domain_tables d = meant (tables_of d)

-- a line of this kind was taken: its answer and the tables after it are those of its definition
abbrev pub Took : Result (Unit {0}) DomainFault → Domain → Domain → Kind → Line → Type 0
Took r old new kind l = Declares r (tables_of old) (tables_of new) kind l

abbrev pub standing : Option Fault → Section → Tables → ℕ → plain.Reader
standing (Some f) s t n = plain.refused f
standing None s t n = plain.reading s t n

abbrev pub stands : Reader → plain.Reader
stands r = standing r.refused r.section (domain_tables r.domain) r.lines

abbrev pub closed_at : Section → Tables → Option Tables
closed_at Facts t = None
closed_at Actions t = None
closed_at TaskSection t = None
closed_at Methods t = None
closed_at Closed t = Some t

-- the tables of a closed domain
abbrev pub closed_tables : plain.Reader → Option Tables
closed_tables (plain.reading s t n) = closed_at s t
closed_tables (plain.refused f) = None

-- how many lines a reader has read, up to the first fault
abbrev pub lines_read : plain.Reader → ℕ
lines_read (plain.reading s t n) = n
lines_read (plain.refused f) = f.line
