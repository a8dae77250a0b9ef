-- the bytes of a line: fields, names, numbers and lists of names
use Rattle.std.specs.Prelude.{◌≡◌, ℕ, ◌+◌, ◌-◌, ◌*◌, ◌<◌, Bool, cond, not, ◌&&◌, ◌||◌, List, [], ◌∷◌, ◌++◌, length, ◌==◌, ◌≢◌, nat_le, nat_lt, slice_index, slice_index_or}
use Rattle.theory.specs.Lists.{All, all}

abbrev pub Bytes : Type 0
Bytes = List ℕ

-- b put before the first of some pieces
abbrev pub cons_first : ℕ → List Bytes → List Bytes
cons_first b [] = (b ∷ []) ∷ []
cons_first b (f ∷ fs) = (b ∷ f) ∷ fs

-- a text cut at each separator
abbrev pub parted : ℕ → Bytes → List Bytes
parted sep [] = [] ∷ []
parted sep (b ∷ bs) = cond (b == sep) ([] ∷ parted sep bs) (cons_first b (parted sep bs))

-- pieces put together again, with a separator between each two
abbrev pub joined : ℕ → List Bytes → Bytes
joined sep [] = []
joined sep (f ∷ []) = f
joined sep (f ∷ g ∷ fs) = f ++ sep ∷ joined sep (g ∷ fs)

abbrev pub tab : ℕ
tab = 9

abbrev pub comma : ℕ
comma = 44

abbrev pub hyphen : ℕ
hyphen = 45

-- a line cut at its tabs
abbrev pub fields : Bytes → List Bytes
fields line = parted tab line

-- field k, counted from 1; empty where the line has none
abbrev pub at : List Bytes → ℕ → Bytes
at fs k = slice_index_or fs (k - 1) []

abbrev pub digit : ℕ → Bool
digit b = nat_le 48 b && nat_le b 57

abbrev pub small : ℕ → Bool
small b = nat_le 97 b && nat_le b 122

abbrev pub name_byte : ℕ → Bool
name_byte b = small b || digit b

-- 1 to 16 bytes, small letters and digits, the first a letter
abbrev pub name_form : Bytes → Bool
name_form bs = nat_lt 0 (length bs) && nat_le (length bs) 16 && small (slice_index bs 0) && all name_byte bs

-- the value of decimal digits, after those whose value is n
abbrev pub value : ℕ → Bytes → ℕ
value n [] = n
value n (d ∷ ds) = value (n * 10 + (d - 48)) ds

-- 1 to 6 decimal digits, with no zero before another digit
abbrev pub number_form : Bytes → Bool
number_form ds = nat_lt 0 (length ds) && nat_le (length ds) 6 && not (slice_index ds 0 == 48 && nat_lt 1 (length ds)) && all digit ds

-- this one byte and nothing else
abbrev pub only : ℕ → Bytes → Bool
only b f = length f == 1 && slice_index f 0 == b

-- the names of a list: none for a lone hyphen, else what stands between the commas
abbrev pub items : Bytes → List Bytes
items f = cond (only hyphen f) [] (parted comma f)

abbrev pub Free : ℕ → Bytes → Type 0
Free sep f = All (λ b. b ≢ sep) f

-- the pieces of a text: joined by the separator they are the text, and none has a separator in it
pub record Cut (sep : ℕ) (text : Bytes) (pieces : List Bytes) : Type 0 where
  pub some : 0 < length pieces
  pub joins : joined sep pieces ≡ text
  pub free : All (Free sep) pieces

-- a line has just one cut into fields
abbrev pub FieldsRejoin : Type 0
FieldsRejoin = (line : Bytes) → Cut tab line (fields line) × ((fs : List Bytes) → Cut tab line fs → fs ≡ fields line)
