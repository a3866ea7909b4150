-- The keys of an object.
use Rattle.std.proofs.Common.{◌≡◌, ℕ, ◌&&◌, Bool, cond, List, [], ◌∷◌, Option, Some, Ok, Err, String, Global, string_bytes, refl, sym, ap, ◌∙◌}
use Rattle.std.specs.List.{list_all}
use Rattle.std.specs.Map.{keys_of}
use Rattle.serde_json.specs.Data.{Members}
use Rattle.serde_json.specs.View.{members_view}
use Rattle.serde_json.specs.declared.value.Value.{Value}
use Rattle.sk_select.specs.Fields.{is_field, are_fields, keys_checked}
use Rattle.sk_select.specs.declared.fault.FieldName.{FieldName}
use Rattle.sk_select.specs.declared.fault.FieldName.TheVariants.{Unknown}
use Rattle.sk_select.specs.declared.fault.TableFault.TheVariants.{Field}

are_fields-keys : (fields : List FieldName) (entries : List (String Global × Value))
    → list_all (λ key. is_field fields (string_bytes key)) (keys_of entries) ≡ are_fields fields (members_view entries)
are_fields-keys fields [] = refl
are_fields-keys fields (entry ∷ entries) = ap (λ rest. is_field fields (string_bytes entry.0) && rest) (are_fields-keys fields entries)

pub keys-checked : (whole : FieldName) (fields : List FieldName) (entries : List (String Global × Value)) (found : Option Members) (known answer : Bool)
    → Some (members_view entries) ≡ found → known ≡ list_all (λ key. is_field fields (string_bytes key)) (keys_of entries) → known ≡ answer
    → cond answer (Ok tt) (Err (Field Unknown)) ≡ keys_checked whole fields found
keys-checked whole fields entries found known answer is tested same =
    ap (λ all. cond all (Ok tt) (Err (Field Unknown))) (sym same ∙ tested ∙ are_fields-keys fields entries) ∙ ap (keys_checked whole fields) is
