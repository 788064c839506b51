-- Where a character of a line stands: within how many lists, and whether within a text.
use Rattle.std.specs.Prelude.{ℕ, ◌+◌, ◌-◌, ◌^◌, min, ◌==◌, ◌&&◌, ◌||◌, Bool, false, not, if◌then◌else◌}
use Rattle.line_fields.specs.declared.fields.Place.{Place}

abbrev pub ends_field : Place → ℕ → Bool
ends_field p c = (c == 32 && p.lists == 0) && not p.quoted

abbrev pub behind_character : Place → ℕ → Place
behind_character p c = record { lists = p.lists; quoted = p.escaped || not (c == 34); escaped = not p.escaped && c == 92 }

abbrev pub lists_behind : ℕ → ℕ → ℕ
lists_behind n c = if c == 123 then min (n + 1) (2 ^ 64 - 1) else (if c == 125 then n - 1 else n)

abbrev pub behind_mark : Place → ℕ → Place
behind_mark p c = record { lists = lists_behind p.lists c; quoted = c == 34; escaped = false }

abbrev pub behind : Place → ℕ → Place
behind p c = if p.quoted then behind_character p c else behind_mark p c
