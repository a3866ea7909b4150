-- The step that a line may be the line of. These functions are total: a word that no step has in its place stands for
-- something all the same, and the line of the step is then another one.
use Rattle.std.specs.Prelude.{ℕ, ℤ, ◌+◌, ◌*◌, ◌%◌, ◌^◌, ◌==◌, Bool, List, [], ◌∷◌, map, take, drop, slice_index_or, Option, Some, None, option_map, option_and_then, if◌then◌else◌, nat_lt, nat_le, pos, neg_ℤ, codes}
use Rattle.std.specs.List.{slice_split}
use Rattle.sk_base.specs.Shape.{shape_of}
use Rattle.sk_base.specs.declared.number.Ty.{Ty}
use Rattle.sk_base.specs.declared.number.Ty.TheVariants.{Int, Long}
use Rattle.sk_base.specs.declared.choice.Variant.{Variant}
use Rattle.sk_base.specs.declared.choice.Variant.TheVariants.{Sequential, Chunked, Cluster, Lanes}
use Rattle.sk_base.specs.declared.choice.EdgeMode.{EdgeMode}
use Rattle.sk_base.specs.declared.choice.EdgeMode.TheVariants.{Duplicate, Cyclic, Pad}
use Rattle.sk_names.specs.Bytes.{same_bytes}
use Rattle.sk_spaces.specs.declared.step.KernelKind.{KernelKind}
use Rattle.sk_spaces.specs.declared.step.KernelKind.TheVariants as kernel
use Rattle.sk_spaces.specs.declared.step.CallMode.{CallMode}
use Rattle.sk_spaces.specs.declared.step.CallMode.TheVariants.{Absent, Row, Col, Incl, Excl}
use Rattle.sk_spaces.specs.declared.step.CallSettings.{CallSettings}
use Rattle.sk_spaces.specs.declared.step.Step.{Step}
use Rattle.sk_spaces.specs.declared.step.Step.TheVariants as step
use Rattle.sk_trace.specs.declared.keyword.Keyword.{Keyword}
use Rattle.sk_trace.specs.declared.keyword.Keyword.TheVariants as keyword

-- ---- numbers

-- a number with one more digit behind it, in 64 bits
abbrev pub with_digit : ℕ → ℕ → ℕ
with_digit number byte = (number * 10 + (byte + 208) % 256) % 2 ^ 64

-- a number with more digits behind it
abbrev pub number_from : ℕ → List ℕ → ℕ
number_from number [] = number
number_from number (byte ∷ bytes) = number_from (with_digit number byte) bytes

-- the number that digits write
abbrev pub wide_in : List ℕ → ℕ
wide_in word = number_from 0 word

-- the same, if it is one of 32 bits
abbrev pub narrow_in : List ℕ → ℕ
narrow_in word = if nat_lt (wide_in word) (2 ^ 32) then wide_in word else 0

abbrev pub negative_in : ℕ → ℤ
negative_in number = if nat_le number (2 ^ 63) then neg_ℤ (pos number) else pos 0

abbrev pub positive_in : ℕ → ℤ
positive_in number = if nat_lt number (2 ^ 63) then pos number else pos 0

-- the cell that digits write, behind `-` if it is below 0
abbrev pub cell_in : List ℕ → ℤ
cell_in [] = pos 0
cell_in (byte ∷ bytes) = if byte == 45 then negative_in (wide_in bytes) else positive_in (wide_in (byte ∷ bytes))

-- ---- words

-- the first words of a text, with this byte between them: no line but those of `write` has more than eleven
abbrev pub words_in : ℕ → List ℕ → List (List ℕ)
words_in mark text = take 11 (slice_split (λ byte. byte == mark) text)

-- the word at this place, or an empty one
abbrev pub word_at : List (List ℕ) → ℕ → List ℕ
word_at words place = slice_index_or words place []

-- the words of a list with commas; `-` stands for none
abbrev pub list_in : List ℕ → List (List ℕ)
list_in word = if same_bytes word (codes "-") then [] else slice_split (λ byte. byte == 44) word

-- what is there, unless the word is `-`
abbrev pub option_in : {X : Type 0} → (List ℕ → X) → List ℕ → Option X
option_in value word = if same_bytes word (codes "-") then None else Some (value word)

abbrev pub type_in : List ℕ → Ty
type_in word = if same_bytes word (codes "long") then Long else Int

abbrev pub variant_in : List ℕ → Variant
variant_in word =
    if same_bytes word (codes "chunked") then Chunked else if same_bytes word (codes "cluster") then Cluster
    else if same_bytes word (codes "lanes") then Lanes else Sequential

abbrev pub kernel_in : List ℕ → KernelKind
kernel_in word =
    if same_bytes word (codes "fold") then kernel.Fold else if same_bytes word (codes "join") then kernel.Join
    else if same_bytes word (codes "scan") then kernel.Scan else if same_bytes word (codes "value") then kernel.Value
    else kernel.Element

abbrev pub mode_in : List ℕ → CallMode
mode_in word =
    if same_bytes word (codes "row") then Row else if same_bytes word (codes "col") then Col
    else if same_bytes word (codes "incl") then Incl else if same_bytes word (codes "excl") then Excl else Absent

abbrev pub edge_in : List ℕ → EdgeMode
edge_in word =
    if same_bytes word (codes "cyclic") then Cyclic else if same_bytes word (codes "pad") then Pad else Duplicate

abbrev pub flag_in : List ℕ → Bool
flag_in word = same_bytes word (codes "1")

-- the shape of sizes with `x` between them, if they are those of one
abbrev pub shape_in : List ℕ → Option (List ℕ)
shape_in word = shape_of (map cell_in (slice_split (λ byte. byte == 120) word))

abbrev pub settings_of : List (List ℕ) → CallSettings
settings_of words = record {
  mode = mode_in (word_at words 0);
  overlap = (narrow_in (word_at words 1), narrow_in (word_at words 2));
  edge = edge_in (word_at words 3);
  pad = cell_in (word_at words 4);
  start = option_in cell_in (word_at words 5);
}

-- the settings of words with colons between them
abbrev pub settings_in : List ℕ → CallSettings
settings_in word = settings_of (words_in 58 word)

-- ---- steps

-- the keyword with this word
abbrev pub keyword_named : List ℕ → Option Keyword
keyword_named word =
    if same_bytes word (codes "memory") then Some keyword.Memory else
    if same_bytes word (codes "store") then Some keyword.Store else
    if same_bytes word (codes "alloc") then Some keyword.Alloc else
    if same_bytes word (codes "free") then Some keyword.Free else
    if same_bytes word (codes "stale") then Some keyword.Stale else
    if same_bytes word (codes "copy") then Some keyword.Copy else
    if same_bytes word (codes "back") then Some keyword.Back else
    if same_bytes word (codes "send") then Some keyword.Send else
    if same_bytes word (codes "deliver") then Some keyword.Deliver else
    if same_bytes word (codes "fill") then Some keyword.Fill else
    if same_bytes word (codes "write") then Some keyword.Write else
    if same_bytes word (codes "poke") then Some keyword.Poke else
    if same_bytes word (codes "clone") then Some keyword.Clone else
    if same_bytes word (codes "call") then Some keyword.Call else
    if same_bytes word (codes "kernel") then Some keyword.Kernel else
    if same_bytes word (codes "read") then Some keyword.Read else
    if same_bytes word (codes "bind") then Some keyword.Bind else
    if same_bytes word (codes "unbind") then Some keyword.Unbind else
    if same_bytes word (codes "flush") then Some keyword.Flush else
    None

abbrev pub store_in : List (List ℕ) → Option Step
store_in words = option_map (λ shape. step.Store (wide_in (word_at words 1)) (type_in (word_at words 2)) shape) (shape_in (word_at words 3))

abbrev pub call_in : List (List ℕ) → Step
call_in words =
    step.Call (wide_in (word_at words 1)) (narrow_in (word_at words 2)) (narrow_in (word_at words 3))
    (variant_in (word_at words 4)) (narrow_in (word_at words 5)) (flag_in (word_at words 6)) (option_in wide_in (word_at words 7))
    (map wide_in (list_in (word_at words 8))) (map cell_in (list_in (word_at words 9))) (settings_in (word_at words 10))

abbrev pub kernel_line_in : List (List ℕ) → Step
kernel_line_in words =
    step.Kernel (wide_in (word_at words 1)) (kernel_in (word_at words 2)) (narrow_in (word_at words 3)) (narrow_in (word_at words 4))
    (narrow_in (word_at words 5)) (wide_in (word_at words 6)) (option_in narrow_in (word_at words 7))
    (map wide_in (list_in (word_at words 8)))

abbrev pub write_in : List ℕ → List (List ℕ) → Step
write_in line words =
    step.Write (wide_in (word_at words 1)) (narrow_in (word_at words 2)) (map cell_in (drop 3 (slice_split (λ byte. byte == 32) line)))

-- the step of a line with this keyword and these first words
abbrev pub step_of : List ℕ → List (List ℕ) → Keyword → Option Step
step_of line words keyword.Memory = Some (step.Memory (narrow_in (word_at words 1)) (narrow_in (word_at words 2)) (narrow_in (word_at words 3)) (narrow_in (word_at words 4)))
step_of line words keyword.Store = store_in words
step_of line words keyword.Alloc = Some (step.Alloc (wide_in (word_at words 1)) (wide_in (word_at words 2)) (narrow_in (word_at words 3)) (narrow_in (word_at words 4)) (narrow_in (word_at words 5)))
step_of line words keyword.Free = Some (step.Free (wide_in (word_at words 1)))
step_of line words keyword.Stale = Some (step.Stale (wide_in (word_at words 1)) (narrow_in (word_at words 2)) (narrow_in (word_at words 3)))
step_of line words keyword.Copy = Some (step.Copy (wide_in (word_at words 1)) (wide_in (word_at words 2)) (narrow_in (word_at words 3)) (narrow_in (word_at words 4)))
step_of line words keyword.Back = Some (step.Back (wide_in (word_at words 1)) (wide_in (word_at words 2)) (narrow_in (word_at words 3)) (narrow_in (word_at words 4)))
step_of line words keyword.Send = Some (step.Send (wide_in (word_at words 1)) (wide_in (word_at words 2)) (wide_in (word_at words 3)) (narrow_in (word_at words 4)) (narrow_in (word_at words 5)))
step_of line words keyword.Deliver = Some (step.Deliver (wide_in (word_at words 1)))
step_of line words keyword.Fill = Some (step.Fill (wide_in (word_at words 1)) (narrow_in (word_at words 2)) (narrow_in (word_at words 3)) (cell_in (word_at words 4)))
step_of line words keyword.Write = Some (write_in line words)
step_of line words keyword.Poke = Some (step.Poke (wide_in (word_at words 1)) (narrow_in (word_at words 2)) (cell_in (word_at words 3)))
step_of line words keyword.Clone = Some (step.Clone (wide_in (word_at words 1)) (wide_in (word_at words 2)) (narrow_in (word_at words 3)) (narrow_in (word_at words 4)))
step_of line words keyword.Call = Some (call_in words)
step_of line words keyword.Kernel = Some (kernel_line_in words)
step_of line words keyword.Read = Some (step.Read (wide_in (word_at words 1)) (narrow_in (word_at words 2)) (narrow_in (word_at words 3)))
step_of line words keyword.Bind = Some (step.Bind (narrow_in (word_at words 1)) (wide_in (word_at words 2)))
step_of line words keyword.Unbind = Some (step.Unbind (narrow_in (word_at words 1)))
step_of line words keyword.Flush = Some step.Flush

-- the step that a line may be the line of
abbrev pub candidate_of : List ℕ → Option Step
candidate_of line = option_and_then (step_of line (words_in 32 line)) (keyword_named (word_at (words_in 32 line) 0))
