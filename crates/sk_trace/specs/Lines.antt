-- The line of each step of a trace.
use Rattle.std.specs.Prelude.{ℕ, List, [], ◌∷◌, ◌++◌, map, Bool, true, false, codes}
use Rattle.std.specs.Fmt.{decimal, signed_decimal}
use Rattle.sk_base.specs.declared.choice.Variant.{Variant}
use Rattle.sk_base.specs.declared.choice.Variant.TheVariants.{Sequential, Chunked, Cluster, Lanes}
use Rattle.sk_base.specs.declared.choice.EdgeMode.{EdgeMode}
use Rattle.sk_base.specs.declared.choice.EdgeMode.TheVariants.{Duplicate, Cyclic, Pad}
use Rattle.sk_names.specs.Words.{type_word}
use Rattle.sk_spaces.specs.declared.step.KernelKind.{KernelKind}
use Rattle.sk_spaces.specs.declared.step.KernelKind.TheVariants as kernel
use Rattle.sk_spaces.specs.declared.step.CallMode.{CallMode}
use Rattle.sk_spaces.specs.declared.step.CallMode.TheVariants.{Absent, Row, Col, Incl, Excl}
use Rattle.sk_spaces.specs.declared.step.CallSettings.{CallSettings}
use Rattle.sk_spaces.specs.declared.step.Step.{Step}
use Rattle.sk_spaces.specs.declared.step.Step.TheVariants as step
use Rattle.sk_words.specs.Strung.{joined_by}
use Rattle.sk_trace.specs.declared.keyword.Keyword.{Keyword}
use Rattle.sk_trace.specs.declared.keyword.Keyword.TheVariants as keyword
use Rattle.sk_trace.specs.Words.{or_absent, comma_list}

abbrev pub variant_word : Variant → List ℕ
variant_word Sequential = codes "sequential"
variant_word Chunked = codes "chunked"
variant_word Cluster = codes "cluster"
variant_word Lanes = codes "lanes"

abbrev pub kernel_word : KernelKind → List ℕ
kernel_word kernel.Element = codes "element"
kernel_word kernel.Fold = codes "fold"
kernel_word kernel.Join = codes "join"
kernel_word kernel.Scan = codes "scan"
kernel_word kernel.Value = codes "value"

abbrev pub mode_word : CallMode → List ℕ
mode_word Absent = codes "-"
mode_word Row = codes "row"
mode_word Col = codes "col"
mode_word Incl = codes "incl"
mode_word Excl = codes "excl"

abbrev pub edge_word : EdgeMode → List ℕ
edge_word Duplicate = codes "duplicate"
edge_word Cyclic = codes "cyclic"
edge_word Pad = codes "pad"

-- 1 where it is so, else 0
abbrev pub flag_word : Bool → List ℕ
flag_word true = codes "1"
flag_word false = codes "0"

-- sizes joined by `x`
abbrev pub shape_word : List ℕ → List ℕ
shape_word sizes = joined_by (codes "x") (map decimal sizes)

-- the settings of a call, joined by colons
abbrev pub settings_word : CallSettings → List ℕ
settings_word settings =
    joined_by (codes ":") (mode_word settings.mode ∷ decimal settings.overlap.0 ∷ decimal settings.overlap.1
    ∷ edge_word settings.edge ∷ signed_decimal settings.pad ∷ or_absent signed_decimal settings.start ∷ [])

abbrev pub keyword_word : Keyword → List ℕ
keyword_word keyword.Memory = codes "memory"
keyword_word keyword.Store = codes "store"
keyword_word keyword.Alloc = codes "alloc"
keyword_word keyword.Free = codes "free"
keyword_word keyword.Stale = codes "stale"
keyword_word keyword.Copy = codes "copy"
keyword_word keyword.Back = codes "back"
keyword_word keyword.Send = codes "send"
keyword_word keyword.Deliver = codes "deliver"
keyword_word keyword.Fill = codes "fill"
keyword_word keyword.Write = codes "write"
keyword_word keyword.Poke = codes "poke"
keyword_word keyword.Clone = codes "clone"
keyword_word keyword.Call = codes "call"
keyword_word keyword.Kernel = codes "kernel"
keyword_word keyword.Read = codes "read"
keyword_word keyword.Bind = codes "bind"
keyword_word keyword.Unbind = codes "unbind"
keyword_word keyword.Flush = codes "flush"

-- the keyword of a step's line
abbrev pub keyword_of : Step → Keyword
keyword_of (step.Memory ranks capacity tile lineage) = keyword.Memory
keyword_of (step.Store store ty shape) = keyword.Store
keyword_of (step.Alloc copy store space lo hi) = keyword.Alloc
keyword_of (step.Free copy) = keyword.Free
keyword_of (step.Stale store lo hi) = keyword.Stale
keyword_of (step.Copy from to lo hi) = keyword.Copy
keyword_of (step.Back from to lo hi) = keyword.Back
keyword_of (step.Send message from to lo hi) = keyword.Send
keyword_of (step.Deliver message) = keyword.Deliver
keyword_of (step.Fill copy lo hi cell) = keyword.Fill
keyword_of (step.Write copy lo cells) = keyword.Write
keyword_of (step.Poke copy index cell) = keyword.Poke
keyword_of (step.Clone from to lo hi) = keyword.Clone
keyword_of (step.Call call line instance variant parts recorded result operands uniforms settings) = keyword.Call
keyword_of (step.Kernel call kind part lo hi out trapped inputs) = keyword.Kernel
keyword_of (step.Read copy lo hi) = keyword.Read
keyword_of (step.Bind container store) = keyword.Bind
keyword_of (step.Unbind container) = keyword.Unbind
keyword_of step.Flush = keyword.Flush

-- the words behind it
abbrev pub fields_of : Step → List (List ℕ)
fields_of (step.Memory ranks capacity tile lineage) = map decimal (ranks ∷ capacity ∷ tile ∷ lineage ∷ [])
fields_of (step.Store store ty shape) = decimal store ∷ type_word ty ∷ shape_word shape ∷ []
fields_of (step.Alloc copy store space lo hi) = map decimal (copy ∷ store ∷ space ∷ lo ∷ hi ∷ [])
fields_of (step.Free copy) = map decimal (copy ∷ [])
fields_of (step.Stale store lo hi) = map decimal (store ∷ lo ∷ hi ∷ [])
fields_of (step.Copy from to lo hi) = map decimal (from ∷ to ∷ lo ∷ hi ∷ [])
fields_of (step.Back from to lo hi) = map decimal (from ∷ to ∷ lo ∷ hi ∷ [])
fields_of (step.Send message from to lo hi) = map decimal (message ∷ from ∷ to ∷ lo ∷ hi ∷ [])
fields_of (step.Deliver message) = map decimal (message ∷ [])
fields_of (step.Fill copy lo hi cell) = map decimal (copy ∷ lo ∷ hi ∷ []) ++ signed_decimal cell ∷ []
fields_of (step.Write copy lo cells) = map decimal (copy ∷ lo ∷ []) ++ map signed_decimal cells
fields_of (step.Poke copy index cell) = map decimal (copy ∷ index ∷ []) ++ signed_decimal cell ∷ []
fields_of (step.Clone from to lo hi) = map decimal (from ∷ to ∷ lo ∷ hi ∷ [])
fields_of (step.Call call line instance variant parts recorded result operands uniforms settings) =
    map decimal (call ∷ line ∷ instance ∷ [])
    ++ variant_word variant ∷ decimal parts ∷ flag_word recorded ∷ or_absent decimal result ∷ comma_list (map decimal operands)
    ∷ comma_list (map signed_decimal uniforms) ∷ settings_word settings ∷ []
fields_of (step.Kernel call kind part lo hi out trapped inputs) =
    decimal call ∷ kernel_word kind ∷ map decimal (part ∷ lo ∷ hi ∷ out ∷ [])
    ++ or_absent decimal trapped ∷ comma_list (map decimal inputs) ∷ []
fields_of (step.Read copy lo hi) = map decimal (copy ∷ lo ∷ hi ∷ [])
fields_of (step.Bind container store) = map decimal (container ∷ store ∷ [])
fields_of (step.Unbind container) = map decimal (container ∷ [])
fields_of step.Flush = []

-- the words of a step's line
abbrev pub words_of : Step → List (List ℕ)
words_of s = keyword_word (keyword_of s) ∷ fields_of s

-- the line of a step, without its line feed: its words with one blank between each two
abbrev pub line_of : Step → List ℕ
line_of s = joined_by (codes " ") (words_of s)
