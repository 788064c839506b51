use Rattle.std.proofs.Common.{◌+◌, ◌-◌, ◌++◌, map, ap, subst, sym, ◌∙◌, arith, Bor, List, ℕ}
use Rattle.std.proofs.lemmas.List.{map-append, length-map}
use Rattle.spec_faults.specs.Cutting.{fields_in}
use Rattle.line_fields.specs.Cutting.{first_fields}
use Rattle.line_fields.proofs.FieldEnds.{first_further, first_ends, first_over}
use Rattle.line_fields.proofs.Cuts.{Behind, cut_on, cut_over, cut_counted}
use Rattle.line_fields.proofs.fields.split_first.Goals as goal

pub fields-preserved : goal.fields-preserved
fields-preserved c =
    let pushed = ap (map (λ (b : Bor (List ℕ)). b.now)) c.in_ok-push-2.ensures.items ∙ map-append (λ (b : Bor (List ℕ)). b.now) c.fields.fields.items _ in (
      omega (arith, c.in_ok-push-2.ensures.len, c.fields.invariant.0),
      λ f fs h e.
          subst (λ ts. Behind f fs ts c.in-Some.behind.now) (sym pushed)
          (cut_on f fs c.fields.rest.now (map (λ b. b.now) c.fields.fields.items) c.in-Some.field.now c.in-Some.behind.now (c.fields.invariant.1 f fs h e) c.in-Some.ensures.between c.in-Some.ensures.last),
      first_further (c.args.count - c.fields._field) (c.args.count - (c.fields._field + 1)) c.args.line.now c.fields.rest.now c.in-Some.field.now c.in-Some.behind.now (map (λ b. b.now) c.fields.fields.items)
          (first_fields c.args.count (fields_in c.args.line.now)) (omega arith) c.fields.invariant.2 c.in-Some.ensures.cuts
          ∙ ap (λ ts. ts ++ first_fields (c.args.count - (c.fields._field + 1)) (fields_in c.in-Some.behind.now)) (sym pushed),
    )

pub returns-in_default : goal.returns-in_default
returns-in_default c = record {
  reads = λ f fs h l e.
      ap (map (λ (b : Bor (List ℕ)). b.now)) c.in_ok-push.ensures.items
      ∙ map-append (λ (b : Bor (List ℕ)). b.now) c.fields.fields.items _
      ∙ cut_over f fs c.fields.rest.now (map (λ b. b.now) c.fields.fields.items) (c.fields.invariant.1 f fs h e) c.in_default.ensures.between;
  cuts =
      ap (map (λ (b : Bor (List ℕ)). b.now)) c.in_ok-push.ensures.items
      ∙ map-append (λ (b : Bor (List ℕ)). b.now) c.fields.fields.items _
      ∙ first_ends (c.args.count - c.fields._field) c.fields.rest.now (map (λ b. b.now) c.fields.fields.items) (first_fields c.args.count (fields_in c.args.line.now)) (omega arith) c.fields.invariant.2 c.in_default.ensures.cuts;
}

pub returns : goal.returns
returns c = record {
  reads = λ f fs h l e.
      ap (map (λ (b : Bor (List ℕ)). b.now)) c.in_ok-push-3.ensures.items
      ∙ map-append (λ (b : Bor (List ℕ)). b.now) c.fields.fields.items _
      ∙ cut_counted f fs c.fields.rest.now (map (λ b. b.now) c.fields.fields.items) c.args.count (c.fields.invariant.1 f fs h e) (length-map c.fields.fields.items (λ b. b.now) ∙ omega (arith, c.fields.invariant.0)) l;
  cuts =
      ap (map (λ (b : Bor (List ℕ)). b.now)) c.in_ok-push-3.ensures.items
      ∙ map-append (λ (b : Bor (List ℕ)). b.now) c.fields.fields.items _
      ∙ first_over (c.args.count - c.fields._field) c.fields.rest.now (map (λ b. b.now) c.fields.fields.items) (first_fields c.args.count (fields_in c.args.line.now)) (omega arith) c.fields.invariant.2;
}
