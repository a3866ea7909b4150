-- Code as lines of text.
use Rattle.std.specs.Prelude.{ℕ, suc, List, [], ◌∷◌, ◌++◌, map, codes}
use Rattle.std.specs.Fmt.{decimal, signed_decimal}
use Rattle.sk_base.specs.declared.number.Op.{Op}
use Rattle.sk_base.specs.declared.number.Op.TheVariants.{Add, Sub, Mul, Div, Rem, Shl, Shr, And, Or, Xor, Lt, Le, Gt, Ge, Eq, Ne}
use Rattle.sk_isa.specs.declared.code.Code.{Code}
use Rattle.sk_isa.specs.declared.code.Instr.{Instr}
use Rattle.sk_isa.specs.declared.code.Instr.TheVariants.{Push, Pop, Load, Store, Field, Size, Item, Region, Neg, Inv, Not, Wrap, Binary, Jump, Zero, Turn, Call, Ret, Count, Make, Take, Drop, Set, Do, Get, Poke, Print, Text, Endl, Halt}
use Rattle.sk_names.specs.Words.{type_word}
use Rattle.sk_words.specs.Kinds.{kind_word}
use Rattle.sk_words.specs.Escapes.{escaped_text, quoted}
use Rattle.sk_words.specs.Strung.{joined_by, spaced}

abbrev pub operator_word : Op → List ℕ
operator_word Add = codes "add"
operator_word Sub = codes "sub"
operator_word Mul = codes "mul"
operator_word Div = codes "div"
operator_word Rem = codes "rem"
operator_word Shl = codes "shl"
operator_word Shr = codes "shr"
operator_word And = codes "and"
operator_word Or = codes "or"
operator_word Xor = codes "xor"
operator_word Lt = codes "lt"
operator_word Le = codes "le"
operator_word Gt = codes "gt"
operator_word Ge = codes "ge"
operator_word Eq = codes "eq"
operator_word Ne = codes "ne"

-- the numbers of containers joined by commas, or `-` where there are none
abbrev pub containers_text : List ℕ → List ℕ
containers_text [] = codes "-"
containers_text (number ∷ numbers) = joined_by (codes ",") (map decimal (number ∷ numbers))

-- the words of an instruction
abbrev pub words_of : Instr → List (List ℕ)
words_of (Push number) = codes "push" ∷ signed_decimal number ∷ []
words_of Pop = codes "pop" ∷ []
words_of (Load slot) = codes "load" ∷ decimal slot ∷ []
words_of (Store slot) = codes "store" ∷ decimal slot ∷ []
words_of (Field slot name) = codes "field" ∷ decimal slot ∷ name ∷ []
words_of (Size container name) = codes "size" ∷ decimal container ∷ name ∷ []
words_of (Item slot places) = codes "item" ∷ decimal slot ∷ decimal places ∷ []
words_of (Region slot places) = codes "region" ∷ decimal slot ∷ decimal places ∷ []
words_of (Neg ty) = codes "neg" ∷ type_word ty ∷ []
words_of (Inv ty) = codes "inv" ∷ type_word ty ∷ []
words_of Not = codes "not" ∷ []
words_of Wrap = codes "wrap" ∷ codes "int" ∷ []
words_of (Binary op ty) = operator_word op ∷ type_word ty ∷ []
words_of (Jump to) = codes "jump" ∷ decimal to ∷ []
words_of (Zero to) = codes "zero" ∷ decimal to ∷ []
words_of Turn = codes "turn" ∷ []
words_of (Call function) = codes "call" ∷ decimal function ∷ []
words_of Ret = codes "ret" ∷ []
words_of (Count line) = codes "count" ∷ decimal line ∷ []
words_of (Make container kind ty sizes) = codes "make" ∷ decimal container ∷ kind_word kind ∷ type_word ty ∷ decimal sizes ∷ []
words_of (Take container kind ty name) = codes "take" ∷ decimal container ∷ kind_word kind ∷ type_word ty ∷ escaped_text name ∷ []
words_of (Drop container) = codes "drop" ∷ decimal container ∷ []
words_of (Set instance name values) = codes "set" ∷ decimal instance ∷ name ∷ decimal values ∷ []
words_of (Do instance containers uniforms) = codes "do" ∷ decimal instance ∷ containers_text containers ∷ decimal uniforms ∷ []
words_of (Get instance containers uniforms) = codes "get" ∷ decimal instance ∷ containers_text containers ∷ decimal uniforms ∷ []
words_of (Poke container places) = codes "poke" ∷ decimal container ∷ decimal places ∷ []
words_of Print = codes "print" ∷ []
words_of (Text text) = codes "text" ∷ quoted text ∷ []
words_of Endl = codes "endl" ∷ []
words_of Halt = codes "halt" ∷ []

-- instructions from an address on, one a line: the address, and the words of the instruction
abbrev pub lines_from : (at : ℕ) → List Instr → List ℕ
lines_from at [] = []
lines_from at (instr ∷ instrs) = decimal at ++ spaced (words_of instr) ++ codes "\n" ++ lines_from (suc at) instrs

-- the lines of a code
abbrev pub listing_of : Code → List ℕ
listing_of code = lines_from 0 code.instrs
