-- What is kept of a record.
use Rattle.std.specs.Prelude.{◌≡◌, ℕ, ◌<◌, ◌≤◌, List, [], length, drop, get_or}
use Rattle.std.specs.Borrow.{Bor}
use Rattle.sk_data.specs.Fields.{fields_at, longest_shape, rest_at}
use Rattle.sk_data.specs.Keeping.{Keeps, room_of}
use Rattle.sk_data.specs.declared.kept.Kept.{Kept}

-- its name and shape, the text of its values, the number of its fields, and what is behind it
pub record IsHeld (text : Bor (List ℕ)) (name shape : Kept) (values : Bor (List ℕ)) (count : ℕ) (rest : Bor (List ℕ)) : Type 0 where
  pub roomy : longest_shape ≤ room_of name
  pub same_room : room_of shape ≡ room_of name
  pub counted : count ≡ length (fields_at text.now)
  pub some : 0 < count
  pub behind : rest.now ≡ rest_at text.now
  pub named : Keeps name (get_or (fields_at text.now) 0 [])
  pub shaped : 1 < count → Keeps shape (get_or (fields_at text.now) 1 [])
  pub valued : 2 < count → fields_at values.now ≡ drop 2 (fields_at text.now)
