-- The rules of a table, read one after another.
use Rattle.std.proofs.Common.{◌≡◌, ℕ, ◌+◌, ◌<◌, ◌≤◌, nat_lt, Bool, true, false, cond, Option, Some, None, List, [], ◌∷◌, ◌++◌, drop, length, get_or, Result, Ok, Err, refl, sym, ap, ◌∙◌, append_assoc, append-nil, rules, arith}
use Rattle.std.proofs.lemmas.List.{at_drop_more, at_drop_all}
use Rattle.serde_json.specs.Data.{Data, null, boolean, number, string, array, object, Items}
use Rattle.serde_json.specs.Find.{as_array}
use Rattle.serde_json.proofs.Views.{items_len-items_view}
use Rattle.serde_json.specs.View.{view, items_view}
use Rattle.serde_json.specs.declared.value.Value.{Value}
use Rattle.sk_select.specs.declared.fault.TableFault.{TableFault}
use Rattle.sk_select.specs.declared.tuning.Rule.{Rule}
use Rattle.sk_select.specs.Table.{and_then, rule_of, rules_of, rules_or_none}
use Rattle.sk_select.specs.declared.fault.FieldName.TheVariants.{Rules}
use Rattle.sk_select.specs.declared.fault.TableFault.TheVariants.{Field, Limit}

-- the rules that were read, and those of the values that are left
abbrev pub with_more : (ranks : ℕ) → List Rule → List Value → Result (List Rule) TableFault
with_more ranks done rest = and_then (rules_of ranks (items_view rest)) (λ more. Ok (done ++ more))

same : (result : Result (List Rule) TableFault) → result ≡ and_then result (λ more. Ok ([] ++ more))
same (Ok more) = refl
same (Err fault) = refl

pub with_more-first : (ranks : ℕ) (values : List Value) → rules_of ranks (items_view values) ≡ with_more ranks [] values
with_more-first ranks values = same (rules_of ranks (items_view values))

one_more : (done : List Rule) (rule : Rule) (rest : Result (List Rule) TableFault)
    → and_then (and_then rest (λ rules. Ok (rule ∷ rules))) (λ more. Ok (done ++ more)) ≡ and_then rest (λ more. Ok ((done ++ rule ∷ []) ++ more))
one_more done rule (Ok more) = ap Ok (sym (append_assoc done (rule ∷ []) more))
one_more done rule (Err fault) = refl

module _ (ranks : ℕ) (done : List Rule) (values : List Value) (i : ℕ) (value : Value) (below : i < length values) (is : value ≡ get_or values i value) where
  front : with_more ranks done (drop i values) ≡ with_more ranks done (value ∷ drop (i + 1) values)
  front = at_drop_more (with_more ranks done) values i value below ∙ ap (λ v. with_more ranks done (v ∷ drop (i + 1) values)) (sym is)

  pub with_more-one : (rule : Rule) → rule_of ranks (view value) ≡ Ok rule → with_more ranks done (drop i values) ≡ with_more ranks (done ++ rule ∷ []) (drop (i + 1) values)
  unfolding rules_of
  with_more-one rule read =
      front
      ∙ ap (λ r. and_then (and_then r (λ rule. and_then (rules_of ranks (items_view (drop (i + 1) values))) (λ rules. Ok (rule ∷ rules)))) (λ more. Ok (done ++ more))) read
      ∙ one_more done rule (rules_of ranks (items_view (drop (i + 1) values)))

  pub with_more-fault : (fault : TableFault) → rule_of ranks (view value) ≡ Err fault → with_more ranks done (drop i values) ≡ Err fault
  unfolding rules_of
  with_more-fault fault read =
      front
      ∙ ap (λ r. and_then (and_then r (λ rule. and_then (rules_of ranks (items_view (drop (i + 1) values))) (λ rules. Ok (rule ∷ rules)))) (λ more. Ok (done ++ more))) read

-- ---- how many there are

is_array : (value : Data) (items : Items) → Some items ≡ as_array value → value ≡ array items
is_array null items is = absurd cc
is_array (boolean b) items is = absurd cc
is_array (number n) items is = absurd cc
is_array (string s) items is = absurd cc
is_array (array others) items is = let same : items ≡ others = cc in ap array (sym same)
is_array (object found) items is = absurd cc

module _ (ranks : ℕ) (field : Option Data) (value : Data) (values : List Value) (is_field : Some value ≡ field) (is_list : Some (items_view values) ≡ as_array value) where
  counted : (many : Bool) → nat_lt 1024 (length values) ≡ many → rules_or_none ranks field ≡ cond many (Err (Limit Rules (length values))) (rules_of ranks (items_view values))
  counted many is =
      ap (rules_or_none ranks) (sym is_field ∙ ap Some (is_array value (items_view values) is_list))
      ∙ ap (λ len. cond (nat_lt 1024 len) (Err (Limit Rules len)) (rules_of ranks (items_view values))) (items_len-items_view values)
      ∙ ap (λ b. cond b (Err (Limit Rules (length values))) (rules_of ranks (items_view values))) is

  pub rules-many : 1024 < length values → rules_or_none ranks field ≡ Err (Limit Rules (length values))
  rules-many many = counted true (search rules)

  pub rules-few : length values ≤ 1024 → rules_or_none ranks field ≡ with_more ranks [] values
  rules-few few = counted false (search rules) ∙ with_more-first ranks values

pub with_more-end : (ranks : ℕ) (done : List Rule) (values : List Value) (i : ℕ) → length values ≤ i → with_more ranks done (drop i values) ≡ Ok done
unfolding rules_of
with_more-end ranks done values i past =
    at_drop_all (with_more ranks done) values i past ∙ ap Ok (append-nil done)
