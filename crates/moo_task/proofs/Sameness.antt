-- Two verbs that wait are the same where they stand alike and their variables agree.
use Rattle.std.proofs.Common.{◌≡◌, ◌∙◌, ap, sym, ℕ, List, length, subst}
use Rattle.spec_value.specs.Datum.{Text}
use Rattle.moo_code.specs.Machine.{Kept}
use Rattle.moo_code.specs.Names.{names_of}
use Rattle.moo_code.specs.Slots.{variables_with}
use Rattle.moo_code.proofs.ProgramNames.{names_are_once}
use Rattle.moo_program.specs.Names.{known}
use Rattle.moo_task.specs.Frames.{kept_of}
use Rattle.moo_task.specs.declared.frame.Frame.{Frame}
use Rattle.moo_task.specs.Sameness.{SlotsAgree, FurtherAgree, StandAlike}
use Rattle.moo_task.proofs.Tables.{tables_agree, slots_agree, further_agree}

keeps_alike : (a b : Kept) → StandAlike a b → a.variables ≡ b.variables → a ≡ b
keeps_alike a b h e =
    λ i. record { call = h.call i; start = h.start i; program = h.program i; variables = e i; place = h.place i; operands = h.operands i }

pub frames_same : (a b : Frame) (n : ℕ) → n ≡ length (names_of a.program) → StandAlike (kept_of a) (kept_of b)
    → SlotsAgree n a.state.slots.items b.state.slots.items → (own : List Text) → known own ≡ names_of a.program → FurtherAgree (known own) a.further b.further
    → kept_of a ≡ kept_of b
frames_same a b n count h slots own same_names alike =
    let further : FurtherAgree (names_of a.program) a.further b.further = subst (λ names. FurtherAgree names a.further b.further) same_names alike in
    let agree : SlotsAgree (length (names_of a.program)) a.state.slots.items b.state.slots.items =
    subst (λ k. SlotsAgree k a.state.slots.items b.state.slots.items) count slots in
    keeps_alike (kept_of a) (kept_of b) h
    (tables_agree (names_of a.program) a.further b.further a.state.slots.items b.state.slots.items agree further
    ∙ ap (λ p. variables_with p b.further b.state.slots.items) h.program)

pub same_frames : (a b : Frame) → kept_of a ≡ kept_of b → StandAlike (kept_of a) (kept_of b)
same_frames a b e =
    record {
      call = ap (λ (k : Kept). k.call) e;
      start = ap (λ (k : Kept). k.start) e;
      program = ap (λ (k : Kept). k.program) e;
      place = ap (λ (k : Kept). k.place) e;
      operands = ap (λ (k : Kept). k.operands) e;
    }

same_variables : (a b : Frame) → kept_of a ≡ kept_of b
    → variables_with a.program a.further a.state.slots.items ≡ variables_with a.program b.further b.state.slots.items
same_variables a b e =
    let programs : a.program ≡ b.program = ap (λ (k : Kept). k.program) e in
    ap (λ (k : Kept). k.variables) e ∙ ap (λ p. variables_with p b.further b.state.slots.items) (sym programs)

pub same_frame_slots : (a b : Frame) (n : ℕ) → n ≡ length (names_of a.program) → kept_of a ≡ kept_of b
    → SlotsAgree n a.state.slots.items b.state.slots.items
same_frame_slots a b n count e =
    subst (λ k. SlotsAgree k a.state.slots.items b.state.slots.items) (sym count)
    (slots_agree (names_of a.program) a.further b.further a.state.slots.items b.state.slots.items (names_are_once a.program) (same_variables a b e))

pub same_frame_further : (a b : Frame) (own : List Text) → known own ≡ names_of a.program → kept_of a ≡ kept_of b → FurtherAgree (known own) a.further b.further
same_frame_further a b own same_names e =
    subst (λ names. FurtherAgree names a.further b.further) (sym same_names)
    (further_agree (names_of a.program) a.further b.further a.state.slots.items b.state.slots.items (same_variables a b e))
