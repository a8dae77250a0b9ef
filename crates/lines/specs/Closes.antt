-- what the tables of a domain mean, and the test that every domain passes
use Rattle.std.specs.Prelude.{Bool, ◌&&◌, map, vec_items, vec_capacity, nat_le}
use Rattle.fields.specs.Held.{name_text}
use Rattle.reading.specs.Sound.{sound}
use Rattle.reading.specs.Tables as plain
use Rattle.tables.specs.Held.{action_entry, task_entry, method_entry}
use Rattle.lines.specs.declared.filled.Tables.{Tables}

abbrev pub meant : Tables → plain.Tables
meant t =
    record { facts = map name_text (vec_items t.facts); actions = map action_entry (vec_items t.actions); tasks = map task_entry (vec_items t.tasks); methods = map method_entry (vec_items t.methods) }

-- room for all that a domain may hold is reserved
abbrev pub roomy : Tables → Bool
roomy t = nat_le 64 (vec_capacity t.facts) && (nat_le 64 (vec_capacity t.actions) && (nat_le 48 (vec_capacity t.tasks) && nat_le 128 (vec_capacity t.methods)))

-- the mark rule, the ladder rule and the ranges of every reference are kept, and no line needs memory
abbrev pub closes : Tables → Bool
closes t = sound (meant t) && roomy t
