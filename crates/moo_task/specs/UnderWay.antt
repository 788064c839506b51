-- Tasks under way: a verb at its beginning, or behind the call at which it waited; and the pending list for which one stands.
use Rattle.std.specs.Prelude.{◌≡◌, suc, ℤ, List, [], ◌∷◌, Option, Some, None}
use Rattle.spec_value.specs.Datum.{Datum}
use Rattle.spec_world.specs.World.{Frame, Entry, frame_entry}
use Rattle.spec_world.specs.WellFormed.{FramesStand}
use Rattle.spec_moo.specs.Pending as pending
use Rattle.moo_code.specs.Machine.{Kept, Outer, verb, at_place}
use Rattle.moo_code.specs.Stands.{Verb, AllWait, Stands}

pub record Begins (k : Kept) (ks : List Outer) : Type 0 where
  pub entries : List Entry
  pub waiting : AllWait entries ks
  pub standing : FramesStand entries
  pub place : k.place ≡ 0
  pub operands : k.operands ≡ []

pub record Resumes (k : Kept) (ks : List Outer) : Type 0 where
  pub frame : Frame
  pub entries : List Entry
  pub at_call : Kept
  pub value : Datum
  pub waiting : AllWait (frame_entry frame ∷ entries) (verb at_call ∷ ks)
  pub standing : FramesStand (frame_entry frame ∷ entries)
  pub is : k ≡ at_place at_call (suc at_call.place) (value ∷ at_call.operands)

pub data IsUnderWay (k : Kept) (ks : List Outer) : Type 0 where
  begins : Begins k ks → IsUnderWay k ks
  resumes : Resumes k ks → IsUnderWay k ks

-- ---- the pending list

abbrev pub verb_of : pending.Pending → Verb
verb_of p = record { player = p.player; call = p.frame.call; start_with = p.frame.start; whole = p.frame.program; outer = p.outer }

-- it stands for what the definition has pending
pub record IsPending (p : pending.Pending) (player : ℤ) (k : Kept) (ks : List Outer) : Type 0 where
  pub player_is : p.player ≡ player
  pub stands : Stands (verb_of p) p.frame.variables p.focus p.frame.pieces k ks

-- where the definition goes on, it stands for that
abbrev pub GoesOn : Option pending.Pending → ℤ → Kept → List Outer → Type 0
GoesOn None player k ks = ⊥
GoesOn (Some p) player k ks = IsPending p player k ks
