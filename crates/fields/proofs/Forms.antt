-- the forms of names and numbers
use Rattle.std.proofs.Common.{◌≡◌, ℕ, zero, suc, ◌<◌, true, ◌&&◌, ltb, leb, [], ◌∷◌, length, get_or, IsUtf8, Ok, Err, Result, IsOk, refl, arith}
use Rattle.std.specs.Result.{MatchResult}
use Rattle.std.proofs.lemmas.Bool.{and_parts}
use Rattle.std.proofs.lemmas.Str.{IsUtf8-from_ascii}
use Rattle.std.proofs.lemmas.Bool.Decides.{nat_tests}
use Rattle.theory.specs.Lists.{all}
use Rattle.fields.specs.Text.{Bytes, small, name_byte, name_form}

byte_lt : (b : ℕ) → name_byte b ≡ true → b < 128
byte_lt b e = grind (arith, nat_tests)

bytes_lt : (bs : Bytes) → all name_byte bs ≡ true → (i : ℕ) → get_or bs i 0 < 128
bytes_lt [] e i = omega arith
bytes_lt (b ∷ bs) e zero = byte_lt b (and_parts (name_byte b) _ e).0
bytes_lt (b ∷ bs) e (suc i) = bytes_lt bs (and_parts (name_byte b) _ e).1 i

pub name_utf8 : (bs : Bytes) → name_form bs ≡ true → IsUtf8 bs
name_utf8 bs e = IsUtf8-from_ascii bs (bytes_lt bs (and_parts (ltb 0 (length bs) && leb (length bs) 16 && small (get_or bs 0 0)) _ e).1)

-- an answer that has no fault is a value
pub ok_unless : {A E : Type 0} (P : A → Type 0) (Q : E → Type 0) (r : Result A E) → MatchResult r P Q → ((e : E) → Q e → ⊥) → IsOk r
ok_unless P Q (Ok x) m n = refl
ok_unless P Q (Err e) m n = absurd (n e m)
