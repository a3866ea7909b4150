-- An input suits its declaration exactly where it answers it.
use Rattle.std.proofs.Common.{List, [], ◌∷◌, map}
use Rattle.std.specs.List.{AllZip}
use Rattle.sk_data.specs.Suits.{Suits}
use Rattle.sk_data.specs.declared.given.Given.{Given}
use Rattle.sk_main_code.specs.Inputs.{AnswerAll}
use Rattle.sk_main_data.specs.Exchange.{input_of}
use Rattle.sk_tree.specs.declared.declared.Declared.{Declared}

pub suited_answer : (declared : List Declared) (given : List Given) → AllZip Suits declared given → AnswerAll declared (map input_of given)
suited_answer [] [] suits = tt
suited_answer [] (one ∷ given) suits = absurd suits
suited_answer (first ∷ declared) [] suits = absurd suits
suited_answer (first ∷ declared) (one ∷ given) suits = (
  record {
    name = suits.0.named;
    kind = suits.0.of_kind;
    shape = suits.0.is_shape;
    count = suits.0.counted;
    cells = suits.0.in_range;
  },
  suited_answer declared given suits.1,
)

pub answering_suit : (declared : List Declared) (given : List Given) → AnswerAll declared (map input_of given) → AllZip Suits declared given
answering_suit [] [] answers = tt
answering_suit [] (one ∷ given) answers = absurd answers
answering_suit (first ∷ declared) [] answers = absurd answers
answering_suit (first ∷ declared) (one ∷ given) answers = (
  record {
    named = answers.0.name;
    is_shape = answers.0.shape;
    of_kind = answers.0.kind;
    counted = answers.0.count;
    in_range = answers.0.cells;
  },
  answering_suit declared given answers.1,
)
