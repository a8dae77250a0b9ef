use Rattle.std.proofs.Common.{Err, sym, refl, ap, ◌∙◌}
use Rattle.fields.specs.Held.{line_fields}
use Rattle.reading.specs.Reading.{line}
use Rattle.reading.specs.declared.faults.DomainFault.{DomainFault}
use Rattle.domain.specs.Held.{domain_tables}
use Rattle.domain.proofs.Heads.{after_is, all-fields, head_out, head_ok, head_no}
use Rattle.domain.proofs.Takings.{taken_err, line-head, line-declared, line_refused}
use Rattle.domain.proofs.reader.Reader.take.Goals as goal

pub returns-in_err-next : goal.returns-in_err-next
returns-in_err-next c =
    let r = c.args.self.now in
    let l = c.args.bytes.now in
    let h = head_out l _ c.cut-line.ensures.first _ c.field.ensures r.section c.in_ok-kind.kind _ c.in_ok-kind.ensures c.in_err-next.ensures in
    taken_err _ r r (line r.section (domain_tables r.domain) l) _ c.from_residual-in_err-next.ensures
    (λ e p. line-head r.section (domain_tables r.domain) l _ h ∙ ap (λ (f : DomainFault). Err f) (sym p)) refl refl (refl, refl)

pub returns-in_err-check_count : goal.returns-in_err-check_count
returns-in_err-check_count c =
    let r = c.args.self.now in
    let l = c.args.bytes.now in
    let cut = c.cut-line.ensures in
    let h = head_no l _ cut.first _ _ cut.count cut.len c.in_ok-kind.kind _ c.field_count.ensures r.section _ c.field.ensures c.in_ok-kind.ensures
    (after_is r.section _ _ c.in_ok-next.ensures).0 _ c.in_err-check_count.ensures in
    taken_err _ r r (line r.section (domain_tables r.domain) l) _ c.from_residual-in_err-check_count.ensures
    (λ e p. line-head r.section (domain_tables r.domain) l _ h ∙ ap (λ (f : DomainFault). Err f) (sym p)) refl refl (refl, refl)

pub returns-in_err-declare : goal.returns-in_err-declare
returns-in_err-declare c =
    let r = c.args.self.now in
    let l = c.args.bytes.now in
    let cut = c.cut-line.ensures in
    let k = c.in_err-declare.ensures in
    let h = head_ok l _ cut.first _ _ cut.count cut.len c.in_ok-kind.kind _ c.field_count.ensures r.section _ c.field.ensures c.in_ok-kind.ensures
    (after_is r.section _ _ c.in_ok-next.ensures).0 c.in_ok-check_count.ensures in
    let a = all-fields l _ cut.first _ _ cut.count cut.len c.in_ok-kind.kind _ c.field_count.ensures c.in_ok-check_count.ensures in
    taken_err _ r _ (line r.section (domain_tables r.domain) l) _ c.from_residual-in_err-declare.ensures
    (λ e p. line_refused r.section (domain_tables r.domain) l c.in_ok-kind.kind (line_fields c.cut-line.result) h a _ k.0 ∙ ap (λ (f : DomainFault). Err f) (sym p))
    refl k.1 (refl, refl)

pub returns : goal.returns
returns c =
    let r = c.args.self.now in
    let l = c.args.bytes.now in
    let cut = c.cut-line.ensures in
    let n = after_is r.section _ _ c.in_ok-next.ensures in
    let h = head_ok l _ cut.first _ _ cut.count cut.len c.in_ok-kind.kind _ c.field_count.ensures r.section _ c.field.ensures c.in_ok-kind.ensures
    n.0 c.in_ok-check_count.ensures in
    let a = all-fields l _ cut.first _ _ cut.count cut.len c.in_ok-kind.kind _ c.field_count.ensures c.in_ok-check_count.ensures in
    (line-declared r.section (domain_tables r.domain) l c.in_ok-kind.kind (line_fields c.cut-line.result) h a _ _ c.in_ok-declare.ensures.0 n.1, (refl, refl))
