-- The place that is reached after some bytes.
use Rattle.std.specs.Prelude.{ℕ, ◌+◌, true, ◌&&◌, ◌==◌, if◌then◌else◌, List, length}
use Rattle.sk_tokens.specs.Lexemes.{is_blank}
use Rattle.sk_tokens.specs.Tokens.{line_after, is_line_start}
use Rattle.sk_lexer.specs.declared.place.Place.{Place}

abbrev pub place_after : List ℕ → Place
place_after before = record { at = length before; line = line_after before; begins_line = is_line_start before }

-- the place after one byte more
abbrev pub place_then : Place → ℕ → Place
place_then place byte =
    if byte == 10 then record { at = place.at + 1; line = place.line + 1; begins_line = true }
    else record { at = place.at + 1; line = place.line; begins_line = is_blank byte && place.begins_line }
