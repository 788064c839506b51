use Rattle.std.proofs.Common.{◌++◌, map, ap, subst, sym, ◌∙◌, Bor, List, ℕ}
use Rattle.std.proofs.lemmas.List.{map-append}
use Rattle.spec_faults.specs.Cutting.{fields_in}
use Rattle.line_fields.proofs.FieldEnds.{cut_further, cut_whole}
use Rattle.line_fields.proofs.Cuts.{Behind, cut_on, cut_over}
use Rattle.line_fields.proofs.fields.split.Goals as goal

pub fields-preserved : goal.fields-preserved
fields-preserved c =
    let pushed = ap (map (λ (b : Bor (List ℕ)). b.now)) c.in_ok-push.ensures.items ∙ map-append (λ (b : Bor (List ℕ)). b.now) c.fields.fields.items _ in (
      λ f fs h e.
          subst (λ ts. Behind f fs ts c.in-Some.behind.now) (sym pushed)
          (cut_on f fs c.fields.rest.now (map (λ b. b.now) c.fields.fields.items) c.in-Some.field.now c.in-Some.behind.now (c.fields.invariant.0 f fs h e) c.in-Some.ensures.between c.in-Some.ensures.last),
      cut_further c.args.line.now c.fields.rest.now c.in-Some.field.now c.in-Some.behind.now (map (λ b. b.now) c.fields.fields.items) c.fields.invariant.1 c.in-Some.ensures.cuts
          ∙ ap (λ ts. ts ++ fields_in c.in-Some.behind.now) (sym pushed),
    )

pub returns : goal.returns
returns c = record {
  reads = λ f fs h e.
      ap (map (λ (b : Bor (List ℕ)). b.now)) c.in_ok-push-2.ensures.items
      ∙ map-append (λ (b : Bor (List ℕ)). b.now) c.fields.fields.items _
      ∙ cut_over f fs c.fields.rest.now (map (λ b. b.now) c.fields.fields.items) (c.fields.invariant.0 f fs h e) c.in_default.ensures.between;
  cuts =
      ap (map (λ (b : Bor (List ℕ)). b.now)) c.in_ok-push-2.ensures.items
      ∙ map-append (λ (b : Bor (List ℕ)). b.now) c.fields.fields.items _
      ∙ cut_whole c.args.line.now c.fields.rest.now (map (λ b. b.now) c.fields.fields.items) c.fields.invariant.1 c.in_default.ensures.cuts;
}
