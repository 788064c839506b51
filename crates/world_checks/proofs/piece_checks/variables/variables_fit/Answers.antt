use Rattle.std.proofs.Common.{◌≡◌, ◌∙◌, ◌&&◌, List, true, false, ap, sym}
use Rattle.std.specs.List.{list_all}
use Rattle.spec_value.specs.Datum.{Datum, Text}
use Rattle.moo_task.specs.Frames.{kept_of}
use Rattle.world_checks.specs.Naming.{name_fits}
use Rattle.world_checks.proofs.Names.{named_so}
use Rattle.world_checks.proofs.piece_checks.variables.variables_fit.Goals as goal

pub returns-then-names_fit-clause-names : goal.returns-then-names_fit-clause-names
returns-then-names_fit-clause-names c =
    let frame = c.args.frame.now in
    let vars = (kept_of frame).variables in
    let so = named_so frame.program c.names.result.now frame.further frame.state.slots.items c.names.ensures in
    let first : list_all (name_fits vars) c.names.result.now ≡ true = sym c.names_fit.ensures ∙ c.if-names_fit.true in
    let second : c.further_fit.result ≡ list_all (λ e. name_fits vars e.0) frame.further =
    c.further_fit.ensures ∙ ap (λ (es : List (Text × Datum)). list_all (λ e. name_fits vars e.0) es) c.as_slice.ensures in
    second ∙ sym (so ∙ ap (λ b. b && list_all (λ e. name_fits vars e.0) frame.further) first)

pub returns-else-names_fit-clause-names : goal.returns-else-names_fit-clause-names
returns-else-names_fit-clause-names c =
    let frame = c.args.frame.now in
    let vars = (kept_of frame).variables in
    let so = named_so frame.program c.names.result.now frame.further frame.state.slots.items c.names.ensures in
    let first : list_all (name_fits vars) c.names.result.now ≡ false = sym c.names_fit.ensures ∙ c.if-names_fit.false in
    c.if-names_fit.false ∙ sym (so ∙ ap (λ b. b && list_all (λ e. name_fits vars e.0) frame.further) first)
