-- Links and objects that are read from their lines.
use Rattle.std.specs.Prelude.{ℤ, Bool, true, ◌&&◌, nat_le, Option, Some, None}
use Rattle.std.specs.List.{list_all}
use Rattle.spec_value.specs.Datum.{Datum}
use Rattle.spec_world.specs.World.{Link, Slot, Verb, Object, PrepositionPart, no_preposition, any_preposition, preposition_set}
use Rattle.spec_world.specs.WellFormed.{is_connection}
use Rattle.spec_checkpoint.specs.Records.{link_holds}
use Rattle.spec_checkpoint.specs.Holding.{slot_holds, verb_holds, numbered_object_holds}
use Rattle.line_fields.specs.Values.{nests_no_deeper}

abbrev pub is_link_read : ℤ × Link → Bool
is_link_read e = is_connection e.0 && link_holds e

abbrev pub is_content_read : Option Datum → Bool
is_content_read None = true
is_content_read (Some v) = nests_no_deeper v

abbrev pub is_slot_read : Slot → Bool
is_slot_read s = slot_holds s && is_content_read s.content

-- the number of the last set of prepositions is 14
abbrev pub is_preposition_read : PrepositionPart → Bool
is_preposition_read no_preposition = true
is_preposition_read any_preposition = true
is_preposition_read (preposition_set n) = nat_le n 14

abbrev pub is_verb_read : Verb → Bool
is_verb_read v = verb_holds v && is_preposition_read v.preposition

-- its values nest no deeper than literals that are read, and its verbs want sets of prepositions that there are
abbrev pub is_object_in_reach : Object → Bool
is_object_in_reach x = list_all (λ s. is_content_read (s.1).content) x.slots && list_all (λ v. is_preposition_read v.preposition) x.verbs

abbrev pub is_object_read : ℤ × Object → Bool
is_object_read e = numbered_object_holds e && is_object_in_reach e.1
