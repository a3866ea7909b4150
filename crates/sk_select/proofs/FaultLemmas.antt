-- A JSON value is never refused as one that was not read, or for want of memory.
use Rattle.std.proofs.Common.{◌≡◌, ℕ, Bool, true, false, cond, ◌&&◌, nat_lt, nat_le, List, Option, Some, None, Result, Ok, Err, subst, refl}
use Rattle.std.specs.Prelude.{⊤}
use Rattle.std.specs.Option.{ok_or}
use Rattle.serde_json.specs.Data.{Data, null, boolean, number, string, array, object, Items, no_items, item, Members}
use Rattle.serde_json.specs.Events.{items_len}
use Rattle.sk_select.specs.Fields.{within, number_or, number_in, upto_in, word_in, keys_checked, fields_checked, are_fields, whole_of, field_of}
use Rattle.sk_select.specs.Table.{and_then, skeleton_in, variant_in, rule_of, rules_of, rules_or_none, rules_in, table_of}
use Rattle.sk_select.specs.declared.fault.FieldName.{FieldName}
use Rattle.sk_select.specs.declared.fault.FieldName.TheVariants.{Rules}
use Rattle.sk_select.specs.declared.fault.TableFault.{TableFault}
use Rattle.sk_select.specs.declared.fault.TableFault.TheVariants.{Json, Field, Limit, Memory}

-- a value, or a fault of a field or a limit
abbrev IsOfValue : {A : Type 0} → Result A TableFault → Type 0
IsOfValue (Ok x) = ⊤
IsOfValue (Err Json) = ⊥
IsOfValue (Err (Field name)) = ⊤
IsOfValue (Err (Limit name n)) = ⊤
IsOfValue (Err Memory) = ⊥

then-of : {A B : Type 0} (first : Result A TableFault) (next : A → Result B TableFault) → IsOfValue first → ((x : A) → IsOfValue (next x)) → IsOfValue (and_then first next)
then-of (Ok x) next first-is next-are = next-are x
then-of (Err Json) next first-is next-are = absurd first-is
then-of (Err (Field name)) next first-is next-are = tt
then-of (Err (Limit name n)) next first-is next-are = tt
then-of (Err Memory) next first-is next-are = absurd first-is

if-of : {A : Type 0} (test : Bool) (x : A) (fault : TableFault) → IsOfValue {A = A} (Err fault) → IsOfValue (cond test (Ok x) (Err fault))
if-of true x fault is = tt
if-of false x fault is = is

field-of : {A : Type 0} (found : Option A) (name : FieldName) → IsOfValue (ok_or found (Field name))
field-of None name = tt
field-of (Some x) name = tt

within-of : (name : FieldName) (most : ℕ) (number : Option ℕ) → IsOfValue (within name most number)
within-of name most None = tt
within-of name most (Some n) = if-of (nat_le 1 n && nat_le n most) n (Limit name n) tt

number_or-of : (name : FieldName) (most default : ℕ) (field : Option Data) → IsOfValue (number_or name most default field)
number_or-of name most default None = tt
number_or-of name most default (Some value) = within-of name most (whole_of value)

number-of : (name : FieldName) (most default : ℕ) (value : Data) → IsOfValue (number_in name most default value)
unfolding number_in
number-of name most default value = number_or-of name most default (field_of name value)

upto-of : (value : Data) → IsOfValue (upto_in value)
unfolding upto_in
upto-of value = field-of _ _

word-of : {A : Type 0} (name : FieldName) (words : List (List ℕ × A)) (value : Data) → IsOfValue (word_in name words value)
unfolding word_in
word-of name words value = field-of _ name

keys-of : (whole : FieldName) (fields : List FieldName) (found : Option Members) → IsOfValue (keys_checked whole fields found)
keys-of whole fields None = tt
keys-of whole fields (Some members) = if-of (are_fields fields members) tt _ tt

fields-of : (whole : FieldName) (fields : List FieldName) (value : Data) → IsOfValue (fields_checked whole fields value)
unfolding fields_checked
fields-of whole fields value = keys-of whole fields _

rule-of : (ranks : ℕ) (value : Data) → IsOfValue (rule_of ranks value)
unfolding rule_of skeleton_in variant_in
rule-of ranks value =
    then-of _ _ (fields-of _ _ value) (λ _. then-of _ _ (word-of _ _ value) (λ skeleton. then-of _ _ (upto-of value) (λ upto.
    then-of _ _ (word-of _ _ value) (λ variant. then-of _ _ (number-of _ _ 1 value) (λ parts. tt)))))

rules-of : (ranks : ℕ) (values : Items) → IsOfValue (rules_of ranks values)
unfolding rules_of
rules-of ranks no_items = tt
rules-of ranks (item value values) = then-of _ _ (rule-of ranks value) (λ rule. then-of _ _ (rules-of ranks values) (λ rules. tt))

few-of : {A : Type 0} (many : Bool) (fault : TableFault) (rules : Result A TableFault) → IsOfValue {A = A} (Err fault) → IsOfValue rules → IsOfValue (cond many (Err fault) rules)
few-of true fault rules is are = is
few-of false fault rules is are = are

rules_or_none-of : (ranks : ℕ) (field : Option Data) → IsOfValue (rules_or_none ranks field)
rules_or_none-of ranks None = tt
rules_or_none-of ranks (Some null) = tt
rules_or_none-of ranks (Some (boolean b)) = tt
rules_or_none-of ranks (Some (number n)) = tt
rules_or_none-of ranks (Some (string s)) = tt
rules_or_none-of ranks (Some (array values)) = few-of (nat_lt 1024 (items_len values)) _ (rules_of ranks values) tt (rules-of ranks values)
rules_or_none-of ranks (Some (object found)) = tt

rules-in-of : (ranks : ℕ) (value : Data) → IsOfValue (rules_in ranks value)
unfolding rules_in
rules-in-of ranks value = rules_or_none-of ranks (field_of Rules value)

table-of : (value : Data) → IsOfValue (table_of value)
unfolding table_of
table-of value =
    then-of _ _ (fields-of _ _ value) (λ _. then-of _ _ (number-of _ _ _ value) (λ ranks. then-of _ _ (number-of _ _ _ value) (λ capacity.
    then-of _ _ (number-of _ _ _ value) (λ tile. then-of _ _ (number-of _ _ _ value) (λ lineage. then-of _ _ (rules-in-of ranks value) (λ rules. tt))))))

pub read-not-Json : (value : Data) → table_of value ≡ Err Json → ⊥
read-not-Json value is = subst IsOfValue is (table-of value)
