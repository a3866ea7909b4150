-- Where runs of statements come to.
use Rattle.std.proofs.Common.{◌≡◌, ℕ, suc, ◌+◌, ◌-◌, ◌<◌, ◌≤◌, nat_lt, List, [], ◌∷◌, length, ℤ, Ok, ap, sym, subst, refl, ◌∙◌, ◌*◌, arith, slice_get, slice_set}
use Rattle.std.specs.Prelude.{Option, Some, None, IsSome, if◌then◌else◌}
use Rattle.std.proofs.lemmas.Bool.{cond-true, lt-ltb}
use Rattle.std.proofs.lemmas.Option.{slice_get_within}
use Rattle.sk_meaning.specs.Evaluation.{Argument}
use Rattle.sk_isa.specs.Coded.{Point, Next, outcome_of}
use Rattle.sk_isa.specs.Configurations.{Goes, Stuck, followed}
use Rattle.sk_isa.specs.declared.code.Instr.{Instr}
use Rattle.sk_isa.specs.declared.code.Instr.TheVariants.{Ret, Store}
use Rattle.sk_columns.specs.Blocks.{Gives, Proceeds, Reaches, point_of}
use Rattle.sk_columns.specs.Cells.{cell_of}
use Rattle.sk_columns.specs.Locals.{IsKept, kept_at, stored_in}
use Rattle.sk_columns.specs.declared.level.Level.{Level}
use Rattle.sk_columns.specs.declared.level.Level.TheVariants.{Column}
use Rattle.sk_columns.proofs.Standing.{one_step}
use Rattle.sk_columns.proofs.Stored.{begun-levels, have-stored}
use Rattle.sk_columns.specs.Known.{Have, Known}

pub stays : (instrs : List Instr) (known : Known) (from : ℕ) → Proceeds instrs known from known from
stays instrs known from = record { comes = λ routine turns result is later. later }

pub followed_by : (instrs : List Instr) (known middle after : Known) (from by to : ℕ)
    → Proceeds instrs known from middle by → Proceeds instrs middle by after to → Proceeds instrs known from after to
followed_by instrs known middle after from by to one other =
    record { comes = λ routine turns result is later. one.comes routine turns result is (other.comes routine turns result is later) }

is_there : (slots : List ℤ) (found : Option ℤ) (slot : ℕ) → IsSome found → ((number : ℤ) → found ≡ Some number → slice_get slots slot ≡ Some number)
    → slot < length slots
is_there slots None slot some have = cc
is_there slots (Some number) slot some have = slice_get_within slots slot number (have number refl)

abbrev goes_to : Point → Next
goes_to point = Goes point

-- a value is reached and stored
pub stores : (instrs : List Instr) (known after : Known) (from at slot : ℕ) (number : ℤ) → slice_get instrs at ≡ Some (Store slot)
    → IsSome (known.slots slot) → Reaches instrs known from [] at (number ∷ [])
    → ((arguments : List Argument) (slots : List ℤ) → slot < length slots → Have known arguments slots → Have after arguments (slice_set slots slot number))
    → Proceeds instrs known from after (at + 1)
stores instrs known after from at slot number found some reaches stored =
    let next : suc at ≡ at + 1 = omega arith in
    subst (λ (n : ℕ). Proceeds instrs known from after n) next
    (record {
      comes = λ routine turns result is later slots have.
          let here : slice_get routine.instrs at ≡ Some (Store slot) = ap (λ (xs : List Instr). slice_get xs at) is ∙ found in
          let within : slot < length slots = is_there slots (known.slots slot) slot some (have.stored slot) in
          let rest = later (slice_set slots slot number) (stored routine.arguments slots within have) in
          let goes : (if nat_lt slot (length slots) then goes_to (point_of (suc at) [] (slice_set slots slot number) turns) else Stuck)
          ≡ goes_to (point_of (suc at) [] (slice_set slots slot number) turns) = cond-true (nat_lt slot (length slots)) _ _ (lt-ltb slot (length slots) within) in
          reaches.comes routine slots turns result is have (
            suc rest.0,
            one_step routine rest.0 (point_of at (number ∷ []) slots turns) (Store slot) here
                ∙ ap (λ (n : Next). followed n (outcome_of routine rest.0)) goes ∙ rest.1,
          );
    })

-- a value is reached and kept by its level
pub stores-kept : (instrs : List Instr) (known : Known) (least from at slot : ℕ) (level : Level) (cells : List ℤ) (levels levels_after : List Level) (rows rows_after : List ℤ) (block place : ℕ)
    → slice_get instrs at ≡ Some (Store slot) → least ≤ slot → length cells ≡ block → IsKept level (slot - least) cells levels rows levels_after rows_after
    → place < block → IsSome ((stored_in least levels rows block place known).slots slot)
    → Reaches instrs (stored_in least levels rows block place known) from [] at (cell_of level cells place known ∷ [])
    → Proceeds instrs (stored_in least levels rows block place known) from (stored_in least levels_after rows_after block place known) (at + 1)
stores-kept instrs known least from at slot level cells levels levels_after rows rows_after block place found upto long kept =
    subst (λ (n : ℕ). place < n → IsSome ((stored_in least levels rows n place known).slots slot)
    → Reaches instrs (stored_in least levels rows n place known) from [] at (cell_of level cells place known ∷ [])
    → Proceeds instrs (stored_in least levels rows n place known) from (stored_in least levels_after rows_after n place known) (at + 1)) long
    (λ inside some reaches.
    stores instrs (stored_in least levels rows (length cells) place known) (stored_in least levels_after rows_after (length cells) place known) from at slot
    (cell_of level cells place known) found some reaches
    (have-stored least slot level cells levels levels_after rows rows_after place known upto inside kept))

-- what a code gives behind the statements that a run begins with
pub given : (instrs : List Instr) (known after : Known) (from at : ℕ) (number : ℤ) → slice_get instrs at ≡ Some Ret
    → Proceeds instrs known 0 after from → Reaches instrs after from [] at (number ∷ []) → Gives instrs known number
given instrs known after from at number found proceeds reaches = record {
  ends = λ routine slots turns is have.
      let here : slice_get routine.instrs at ≡ Some Ret = ap (λ (xs : List Instr). slice_get xs at) is ∙ found in
      proceeds.comes routine turns (Ok (number, turns)) is
      (λ others own. reaches.comes routine others turns (Ok (number, turns)) is own (1, one_step routine 0 (point_of at (number ∷ []) others turns) Ret here))
      slots have;
}

-- where nothing was stored, what is known is what was known before
pub given-begun : (instrs : List Instr) (known : Known) (least : ℕ) (levels : List Level) (rows : List ℤ) (block place : ℕ) (number : ℤ)
    → ((row : ℕ) → row < length levels → slice_get levels row ≡ Some (Column (least + row)))
    → Gives instrs (stored_in least levels rows block place known) number → Gives instrs known number
given-begun instrs known least levels rows block place number own gives = record {
  ends = λ routine slots turns is have.
      gives.ends routine slots turns is (record {
        stored = λ slot x there.
            have.stored slot x (sym (ap (λ (l : Level). kept_at l rows ((slot - least) * block + place) known) (begun-levels least levels own slot)) ∙ there);
        given = have.given;
      });
}
