-- what a function says of the text that it makes or goes on with, where there is memory for it, and whose text it is
use Rattle.std.specs.Prelude.{◌≡◌, List, ◌∷◌, ◌++◌, IfOk, string_bytes, Result, Option, Some, None, String, OnOk}
use Rattle.std.specs.List.{flat_map}
use Rattle.fields.specs.Text.{Bytes, comma}
use Rattle.reading.specs.Tables.{Tables}
use Rattle.domain.specs.Held.{domain_tables}
use Rattle.listing.specs.Listing.{name_list}
use Rattle.listing.specs.declared.rows.Lister.{Lister}

-- the string made is this text
abbrev pub Makes : {Z E : Type 0} → Result (String Z) E → Bytes → Type 0
Makes r text = IfOk r (λ s. string_bytes s ≡ text)

-- the string has become longer by this text
abbrev pub Pushes : {Z E : Type 0} → Result (Unit {0}) E → String Z → String Z → Bytes → Type 0
Pushes r old new text = OnOk r (string_bytes new ≡ string_bytes old ++ text)

-- what a list of names comes to, of which some may be written and these are still to come
abbrev pub continued : {Z : Type 0} → Option (String Z) → List Bytes → Bytes
continued None ns = name_list ns
continued (Some text) ns = string_bytes text ++ flat_map (λ n. comma ∷ n) ns

-- the names are now those before with one more, whatever comes after it
abbrev pub Continues : {Z : Type 0} → Option (String Z) → Option (String Z) → Bytes → Type 0
Continues new old name = (ns : List Bytes) → continued new ns ≡ continued old (name ∷ ns)

-- the tables whose rows are made
abbrev pub listed : Lister → Tables
listed lister = domain_tables lister.domain.now
