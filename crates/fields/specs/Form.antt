-- a name's form, where its bytes stand at the front of an array
use Rattle.std.specs.Prelude.{ℕ, Bool, ◌&&◌, take, nat_le}
use Rattle.fields.specs.Text.{Bytes, name_form}

abbrev pub name_at : Bytes → ℕ → Bool
name_at bytes len = nat_le len 16 && name_form (take len bytes)
