use Rattle.std.proofs.Common.{◌≡◌, ◌/◌, ◌^◌, drop}
use Rattle.listing.specs.Listing.{chosen, fact_names}
use Rattle.listing.specs.Texts.{continued, listed}
use Rattle.listing.proofs.rows.Lister.fact_list.Given as goal

-- the list of the names so far and of those that are still to come is the whole list
abbrev pub invariant-loop-fact : goal.invariant-loop-fact
invariant-loop-fact l =
    continued l.names (chosen (l.set / 2 ^ l.fact) (drop l.fact (listed l.self).facts)) ≡ fact_names (listed l.self) l.set
