-- A page of a listing and the code of an error (Amazon S3 API Reference, "ListObjectsV2" and "Error responses").
use Rattle.std.specs.Prelude.{ℕ, List, [], ◌∷◌, ◌++◌, Option, Some, None, map, filter, option_map, bytes_eq, codes, if◌then◌else◌}
use Rattle.json_tree.specs.Options.{◌>>=◌}
use Rattle.bucket_text.specs.declared.listing.Listing.{Listing}
use Rattle.bucket_text.specs.Elements.{Element, elements_of}
use Rattle.bucket_text.specs.Steps.{steps}
use Rattle.bucket_text.specs.Texts.{key_text, plain_text}

abbrev pub texts_at : List ℕ → List Element → List (List ℕ)
texts_at path elements = map (λ e. e.1) (filter (λ e. bytes_eq e.0 path) elements)

abbrev pub only : List (List ℕ) → Option (List ℕ)
only (text ∷ []) = Some text
only _ = None

-- the text of the one element with that path
abbrev pub only_text : List ℕ → List Element → Option (List ℕ)
only_text path elements = only (texts_at path elements)

abbrev pub with_key : List (List ℕ) → List ℕ → Option (List (List ℕ))
with_key keys text = option_map (λ key. keys ++ key ∷ []) (key_text text)

abbrev pub keys_of : List (List ℕ) → Option (List (List ℕ))
keys_of texts = steps with_key [] texts

-- IsTruncated says whether there is a further page, and NextContinuationToken where it begins
abbrev pub next_by : List Element → List ℕ → Option (Option (List ℕ))
next_by elements truncated =
    if bytes_eq truncated (codes "false") then Some None
    else if bytes_eq truncated (codes "true") then option_map (λ token. Some token) (only_text (codes "/ListBucketResult/NextContinuationToken") elements >>= plain_text)
    else None

abbrev pub next_of : List Element → Option (Option (List ℕ))
next_of elements = only_text (codes "/ListBucketResult/IsTruncated") elements >>= next_by elements

abbrev pub listing_in : List Element → Option Listing
listing_in elements =
    keys_of (texts_at (codes "/ListBucketResult/Contents/Key") elements)
    >>= (λ keys. option_map (λ next. record { keys = keys; next = next }) (next_of elements))

unfoldable pub listing_of : List ℕ → Option Listing
listing_of body = elements_of body >>= listing_in

abbrev pub code_in : List Element → Option (List ℕ)
code_in elements = only_text (codes "/Error/Code") elements >>= plain_text

unfoldable pub code_of : List ℕ → Option (List ℕ)
code_of body = elements_of body >>= code_in
