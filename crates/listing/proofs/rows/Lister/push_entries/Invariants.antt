use Rattle.std.proofs.Common.{◌≡◌, ◌++◌, drop, string_bytes}
use Rattle.listing.specs.Listing.{numbered}
use Rattle.listing.specs.Texts.{listed}
use Rattle.listing.proofs.rows.Lister.push_entries.Given as goal

abbrev pub invariant-loop-number : goal.invariant-loop-number
invariant-loop-number g l =
    string_bytes l.out ++ numbered (g.T.Entry.text (listed l.self)) l.number (drop l.number l.entries)
    ≡ string_bytes l.initial.out ++ numbered (g.T.Entry.text (listed l.self)) 0 l.entries
