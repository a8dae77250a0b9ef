-- what the values of this crate hold
use Rattle.std.specs.Prelude.{ℕ, cond, ◌&&◌, List, [], map, take, Some, None, Ok, Err, Option, Result, ◌==◌, nat_le}
use Rattle.std.specs.Borrow.{Bor}
use Rattle.fields.specs.Text.{Bytes, parted}
use Rattle.fields.specs.declared.faults.LineFault.{LineFault}
use Rattle.fields.specs.declared.faults.LineFault.TheVariants.{Count}
use Rattle.fields.specs.declared.name.Name.{Name}
use Rattle.fields.specs.declared.pieces.Pieces.{Pieces}
use Rattle.fields.specs.declared.line.Line.{Line}

abbrev pub name_text : Name → Bytes
name_text n = take n.len n.bytes

-- the pieces of what is left of a text, if anything is left
abbrev pub parted_rest : ℕ → Option (Bor Bytes) → List Bytes
parted_rest sep None = []
parted_rest sep (Some text) = parted sep text.now

-- the pieces that are still to come
abbrev pub pieces_left : Pieces → List Bytes
pieces_left p = parted_rest p.separator p.rest

-- the first fields of a line, as many as any letter asks for
abbrev pub line_fields : Line → List Bytes
line_fields l = take l.count (map (λ x. x.now) l.at)

-- an answer whose value is read by f
abbrev pub answered : {A B E : Type 0} → (A → B) → Result A E → Result B E
answered f (Ok x) = Ok (f x)
answered f (Err e) = Err e

-- so many fields, and at most 255 bytes
abbrev pub count_in : Line → ℕ → Result (Unit {0}) LineFault
count_in l wanted = cond (l.count == wanted && nat_le l.len 255) (Ok tt) (Err (Count l.count))
