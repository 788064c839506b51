-- Questions whose answers are put together of many records.
use Rattle.std.specs.Prelude.{Bool, true, false}
use Rattle.spec_world.specs.Questions.{Question, about_waiting, about_readers, about_connections, about_connected}

abbrev pub is_listed : Question → Bool
is_listed about_waiting = true
is_listed (about_readers c) = true
is_listed (about_connections o) = true
is_listed about_connected = true
is_listed _ = false
