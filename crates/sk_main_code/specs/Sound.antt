-- Sound compiled programs: their functions and instances, their main, and their names.
use Rattle.std.specs.Prelude.{◌≡◌, ℕ, Bool, true, ◌&&◌, ◌||◌, ◌==◌, nat_le, List, length, Some, slice_get}
use Rattle.std.specs.List.{list_all}
use Rattle.sk_isa.specs.SoundObjects.{HasSoundFunctions}
use Rattle.sk_isa.specs.Soundness.{is_dimension}
use Rattle.sk_isa.specs.declared.code.Instr.{Instr}
use Rattle.sk_isa.specs.declared.code.Instr.TheVariants as instr
use Rattle.sk_isa.specs.declared.object.Object.{Object}
use Rattle.sk_isa.specs.declared.object.Plan.{Plan}
use Rattle.sk_main_code.specs.MainSoundness.{IsSoundMain}
use Rattle.sk_names.specs.Bytes.{is_from_to}
use Rattle.sk_names.specs.Words.{is_word, is_name}
use Rattle.sk_tree.specs.declared.declared.Declared.{Declared}

-- the most bytes of a name or a text
abbrev pub most_bytes : ℕ
most_bytes = 255

-- a word that is not reserved, of at most 255 bytes
abbrev pub is_short_name : List ℕ → Bool
is_short_name name = is_word name && is_name name && nat_le (length name) most_bytes

-- a byte that a string may stand for
abbrev pub is_text_byte : ℕ → Bool
is_text_byte byte = byte == 9 || byte == 10 || is_from_to 32 126 byte

-- what a string stands for
abbrev pub is_short_text : List ℕ → Bool
is_short_text text = list_all is_text_byte text && nat_le (length text) most_bytes

-- what is printed as a text
abbrev pub prints_short_text : Instr → Bool
prints_short_text (instr.Text text) = is_short_text text
prints_short_text instr = true

abbrev pub has_kind : Declared → Bool
has_kind declared = is_dimension 4 declared.kind

-- no two inputs have one name
abbrev pub AreDistinct : List Declared → Type 0
AreDistinct inputs =
    (one other : ℕ) (first second : Declared) → slice_get inputs one ≡ Some first → slice_get inputs other ≡ Some second
    → first.name ≡ second.name → one ≡ other

-- the names of a compiled program are names of the language, and its texts are what strings stand for
pub record HasNames (object : Object) : Type 0 where
  pub functions : list_all is_short_name object.names ≡ true
  pub containers : list_all (λ (container : Declared). is_short_name container.name) object.containers ≡ true
  pub instances : list_all (λ (plan : Plan). is_short_name plan.name) object.instances ≡ true
  pub inputs : list_all (λ (input : Declared). is_short_text input.name) object.inputs ≡ true
  pub texts : list_all prints_short_text object.main.instrs ≡ true

-- The code of a sound program never lacks what an instruction needs, each way round a loop takes a turn or counts a
-- statement, its marks are true, and it has the names, kinds and variants of the language.
pub record IsSound (object : Object) : Type 0 where
  pub functions : HasSoundFunctions object
  pub main : IsSoundMain object
  pub names : HasNames object
  pub distinct : AreDistinct object.inputs
  pub container_kinds : list_all has_kind object.containers ≡ true
  pub input_kinds : list_all has_kind object.inputs ≡ true
