use Rattle.std.proofs.Common.{leb, ap, ◌∙◌}
use Rattle.std.proofs.lemmas.Bool.{and_parts}
use Rattle.fields.specs.Text.{name_form}
use Rattle.fields.specs.Held.{name_text}
use Rattle.fields.proofs.Forms.{name_utf8, ok_unless}
use Rattle.fields.proofs.name.Name.as_str.Goals as goal

pub unwrap-requires : goal.unwrap-requires
unwrap-requires c =
    let form = (and_parts (leb c.args.self.now.len 16) (name_form (name_text c.args.self.now)) c.args.self.now.ok).1 in
    ok_unless _ _ c.from_utf8.result c.from_utf8.ensures.cases (λ e bad. bad.0 (name_utf8 c.as_bytes.result.now (ap name_form c.as_bytes.ensures ∙ form)))
