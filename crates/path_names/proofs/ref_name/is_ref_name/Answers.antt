use Rattle.std.proofs.Common.{◌&&◌, not, sym, ◌∙◌}
use Rattle.std.proofs.lemmas.Bool.{le-leb}
use Rattle.std.specs.List.{list_all}
use Rattle.path_names.specs.PathTexts.{parts}
use Rattle.path_names.specs.RefNames.{is_ref_name, is_ref_part}
use Rattle.path_names.proofs.ref_name.is_ref_name.Goals as goal

pub returns : goal.returns
unfolding is_ref_name
returns c =
    c.has_ref_parts.ensures
    ∙ sym (λ i.
    le-leb _ _ c.if-t-lt-SHORTEST.false i
    && le-leb _ _ c.if-t-gt-REF_BYTES.false i
    && (sym c.starts_with.ensures.value ∙ c.if-not-starts_with.false) i
    && (sym c.has_ref_bytes.ensures ∙ c.if-not-has_ref_bytes.false) i
    && not ((sym c.has_pair.ensures ∙ c.if-has_pair.false) i)
    && not ((sym c.has_pair-2.ensures ∙ c.if-has_pair-2.false) i)
    && not ((sym c.has_pair-3.ensures ∙ c.if-has_pair-3.false) i)
    && not ((sym c.ends_with.ensures.value ∙ c.if-ends_with.false) i)
    && not ((sym c.ends_with-2.ensures.value ∙ c.if-ends_with-2.false) i)
    && list_all is_ref_part (parts c.args.t.now))
