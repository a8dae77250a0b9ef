-- what each kind of field reads as: its value, or the fault of that field
use Rattle.std.specs.Prelude.{ℕ, Bool, true, false, cond, ◌&&◌, List, length, Ok, Err, Result, nat_le}
use Rattle.theory.specs.Lists.{all}
use Rattle.fields.specs.Text.{Bytes, at, name_form, number_form, value, only, items}
use Rattle.fields.specs.declared.faults.FieldFault.{FieldFault}
use Rattle.fields.specs.declared.faults.FieldCause.TheVariants.{Form, Range}

abbrev pub Read : Type 0 → Type 0
Read A = Result A FieldFault

abbrev pub not_form : {A : Type 0} → ℕ → Read A
not_form k = Err (record { cause = Form; field = k })

abbrev pub not_in_range : {A : Type 0} → ℕ → Read A
not_in_range k = Err (record { cause = Range; field = k })

module _ (fs : List Bytes) (k : ℕ) where
  abbrev pub name_in : Read Bytes
  name_in = cond (name_form (at fs k)) (Ok (at fs k)) (not_form k)

  -- a number from low to high
  abbrev pub number_in : ℕ → ℕ → Read ℕ
  number_in low high =
      cond (number_form (at fs k)) (cond (nat_le low (value 0 (at fs k)) && nat_le (value 0 (at fs k)) high) (Ok (value 0 (at fs k))) (not_in_range k)) (not_form k)

  -- the mark v, which says that a task may vanish, or n
  abbrev pub mark_in : Read Bool
  mark_in = cond (only 118 (at fs k)) (Ok true) (cond (only 110 (at fs k)) (Ok false) (not_form k))

  abbrev pub list_in : Read (List Bytes)
  list_in = cond (all name_form (items (at fs k))) (Ok (items (at fs k))) (not_form k)

  -- a list of so many names at most
  abbrev pub short_list_in : ℕ → Read (List Bytes)
  short_list_in most = cond (all name_form (items (at fs k))) (cond (nat_le (length (items (at fs k))) most) (Ok (items (at fs k))) (not_in_range k)) (not_form k)
