-- What the kinds of parameters and containers are and have, and in which order parameters stand.
use Rattle.std.specs.Prelude.{ℕ, zero, suc, nat_le, Bool, true, false, ◌&&◌, ◌||◌, ◌==◌, List, [], ◌∷◌, Option, Some, None, codes}
use Rattle.std.specs.List.{list_all}
use Rattle.sk_base.specs.declared.number.Ty.{Ty}
use Rattle.sk_base.specs.declared.number.Ty.TheVariants.{Int, Long}
use Rattle.sk_names.specs.Bytes.{same_bytes}
use Rattle.sk_tree.specs.declared.tree.ParamKind.{ParamKind}
use Rattle.sk_tree.specs.declared.tree.ParamKind.TheVariants.{Scalar, Index, Proxy, Region}

abbrev pub is_scalar : ParamKind → Bool
is_scalar (Scalar ty) = true
is_scalar kind = false

abbrev pub is_region : ParamKind → Bool
is_region (Region dimension ty) = true
is_region kind = false

abbrev pub same_type : Ty → Ty → Bool
same_type Int Int = true
same_type Long Long = true
same_type ty other = false

-- the types of the scalars among parameters
abbrev pub scalar_types : List ParamKind → List Ty
scalar_types [] = []
scalar_types (Scalar ty ∷ kinds) = ty ∷ scalar_types kinds
scalar_types (Index dimension ∷ kinds) = scalar_types kinds
scalar_types (Proxy dimension ty ∷ kinds) = scalar_types kinds
scalar_types (Region dimension ty ∷ kinds) = scalar_types kinds

-- how many scalars a function takes before its first container
abbrev pub leading_scalars : List ParamKind → ℕ
leading_scalars [] = 0
leading_scalars (Scalar ty ∷ kinds) = suc (leading_scalars kinds)
leading_scalars (Index dimension ∷ kinds) = leading_scalars kinds
leading_scalars (Proxy dimension ty ∷ kinds) = 0
leading_scalars (Region dimension ty ∷ kinds) = 0

-- the dimension of the index parameter, which stands first
abbrev pub index_dimension : List ParamKind → Option ℕ
index_dimension (Index dimension ∷ kinds) = Some dimension
index_dimension kinds = None

-- no index parameter, or one of that dimension
abbrev pub index_fits : List ParamKind → ℕ → Bool
index_fits kinds dimension = elim (index_dimension kinds) [ Some index ↦ index == dimension | None ↦ true ]

-- the kind of the region parameter, which stands first or behind the index
abbrev pub region_of : List ParamKind → Option (ℕ × Ty)
region_of (Region dimension ty ∷ kinds) = Some (dimension, ty)
region_of (Index dimension ∷ kinds) = region_of kinds
region_of kinds = None

-- Parameters stand in the order index, scalars or one region, proxies, scalars.
abbrev pub scalars_only : List ParamKind → Bool
scalars_only = list_all is_scalar

abbrev pub proxies_then_scalars : List ParamKind → Bool
proxies_then_scalars (Proxy dimension ty ∷ kinds) = proxies_then_scalars kinds
proxies_then_scalars kinds = scalars_only kinds

abbrev pub scalars_then_proxies : List ParamKind → Bool
scalars_then_proxies (Scalar ty ∷ kinds) = scalars_then_proxies kinds
scalars_then_proxies kinds = proxies_then_scalars kinds

abbrev pub ordered_after_index : List ParamKind → Bool
ordered_after_index (Region dimension ty ∷ kinds) = proxies_then_scalars kinds
ordered_after_index kinds = scalars_then_proxies kinds

abbrev pub are_ordered : List ParamKind → Bool
are_ordered (Index dimension ∷ kinds) = ordered_after_index kinds
are_ordered kinds = ordered_after_index kinds

-- a name that is spelled so
abbrev pub is_size : List ℕ → Bool
is_size name = same_bytes name (codes "size")

-- The further sizes of a container by name: none of a vector, `rows` and `cols` of a matrix, `size_i` and so on of tensors.
abbrev pub is_tensor_size : ℕ → List ℕ → Bool
is_tensor_size dimension name =
    same_bytes name (codes "size_i") || same_bytes name (codes "size_j") || same_bytes name (codes "size_k")
    || (nat_le 4 dimension && same_bytes name (codes "size_l"))

abbrev pub is_proxy_field : ℕ → List ℕ → Bool
is_proxy_field (suc zero) name = is_size name
is_proxy_field (suc (suc zero)) name = is_size name || same_bytes name (codes "rows") || same_bytes name (codes "cols")
is_proxy_field dimension name = is_size name || is_tensor_size dimension name

-- `i` of one place, `row` and `col` of two, `i`, `j`, `k` and then `l` of more
abbrev pub is_index_field : ℕ → List ℕ → Bool
is_index_field (suc zero) name = same_bytes name (codes "i")
is_index_field (suc (suc zero)) name = same_bytes name (codes "row") || same_bytes name (codes "col")
is_index_field dimension name =
    same_bytes name (codes "i") || same_bytes name (codes "j") || same_bytes name (codes "k")
    || (nat_le 4 dimension && same_bytes name (codes "l"))

-- `oi` of a region, and `oj` of one of a matrix
abbrev pub is_region_field : ℕ → List ℕ → Bool
is_region_field (suc zero) name = same_bytes name (codes "oi")
is_region_field dimension name = same_bytes name (codes "oi") || same_bytes name (codes "oj")

-- Fields of parameters, all of them `int`.
abbrev pub is_field : ParamKind → List ℕ → Bool
is_field (Scalar ty) name = false
is_field (Index dimension) name = is_index_field dimension name
is_field (Proxy dimension ty) name = is_proxy_field dimension name
is_field (Region dimension ty) name = is_region_field dimension name

-- Methods of main's containers: `size()` of each, `total_rows()` and `total_cols()` of a matrix, `size_i()` and so on of
-- tensors.
abbrev pub is_container_method : ℕ → List ℕ → Bool
is_container_method (suc zero) name = is_size name
is_container_method (suc (suc zero)) name =
    is_size name || same_bytes name (codes "total_rows") || same_bytes name (codes "total_cols")
is_container_method dimension name = is_size name || is_tensor_size dimension name

abbrev pub is_method : ParamKind → List ℕ → Bool
is_method (Proxy dimension ty) name = is_container_method dimension name
is_method kind name = false
