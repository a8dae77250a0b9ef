use Rattle.std.proofs.Common.{◌≡◌, ◌++◌, take, string_bytes}
use Rattle.std.specs.List.{flat_map}
use Rattle.tables.specs.Held.{method_entry}
use Rattle.listing.specs.Listing.{method_row, constraint_row}
use Rattle.listing.specs.Texts.{listed}
use Rattle.listing.proofs.rows.MethodEntry.rows.Given as goal

abbrev pub invariant-loop-constraint : goal.invariant-loop-constraint
invariant-loop-constraint l =
    string_bytes l.text
    ≡ method_row (listed l.lister) l.number (method_entry l.self)
    ++ flat_map (constraint_row (listed l.lister) l.number) (take l.constraint-index l.constraint-items)
