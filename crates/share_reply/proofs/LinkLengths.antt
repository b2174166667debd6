-- How long links and their parts are in a JSON string.
use Rattle.std.proofs.Common.{◌≡◌, ℕ, ◌+◌, ◌^◌, ◌==◌, ◌<◌, true, List, ◌++◌, All, length, refl, arith, decimal, codes}
use Rattle.std.specs.List.{list_all}
use Rattle.std.proofs.lemmas.Bool.{and_parts}
use Rattle.std.proofs.lemmas.Bool.Decides.{nat_tests}
use Rattle.json.specs.Print.{escape, escape_byte}
use Rattle.hex.specs.Hex.{encode_lower}
use Rattle.hmac_core.specs.Hmac.{hmac, is_tag_digit}
use Rattle.hmac_core.proofs.Bytes.{IsByte}
use Rattle.hmac_core.proofs.Facts.{digits_are_digits, length-digits}
use Rattle.share_catalog.specs.Grammar.{is_catalog_name, is_name_byte}
use Rattle.text_forms.specs.Escape.{escaped}
use Rattle.signed_link.specs.Link.{file_path, link_text, query, tag_text, unsigned}
use Rattle.signed_link.specs.declared.parts.LinkParts.{LinkParts}
use Rattle.share_reply.proofs.PrintedLengths.{IsPlain, all_plain, byte_plain, escape_both, number_plain, path_plain}

-- ---- names and tags

name_byte : (b : ℕ) → is_name_byte b ≡ true → length (escape_byte b) ≡ 1
name_byte b e = byte_plain b (grind (arith, nat_tests)) (grind (arith, nat_tests)) (grind (arith, nat_tests))

pub name_plain : (name : List ℕ) → is_catalog_name name ≡ true → IsPlain name
name_plain name e = all_plain is_name_byte name_byte name (and_parts _ _ (and_parts _ _ e).1).1

tag_byte : (b : ℕ) → is_tag_digit b ≡ true → length (escape_byte b) ≡ 1
tag_byte b e = byte_plain b (grind (arith, nat_tests)) (grind (arith, nat_tests)) (grind (arith, nat_tests))

tag_plain : (key text : List ℕ) → length (escape (encode_lower (hmac key text))) ≡ 64
tag_plain key text =
    let digits = encode_lower (hmac key text) in
    let plain : IsPlain digits = all_plain is_tag_digit tag_byte digits (and_parts (length digits == 64) (list_all is_tag_digit digits) (digits_are_digits key text)).1 in
    omega (arith, plain, length-digits key text)

-- ---- the parts one after another

eight : (a b c d e f g h : List ℕ) → length (escape (a ++ b ++ c ++ d ++ e ++ f ++ g ++ h)) ≡ length (escape a) + length (escape b) + length (escape c) + length (escape d) + length (escape e) + length (escape f) + length (escape g) + length (escape h)
eight a b c d e f g h =
    omega (
      arith,
      escape_both a b,
      escape_both (a ++ b) c,
      escape_both (a ++ b ++ c) d,
      escape_both (a ++ b ++ c ++ d) e,
      escape_both (a ++ b ++ c ++ d ++ e) f,
      escape_both (a ++ b ++ c ++ d ++ e ++ f) g,
      escape_both (a ++ b ++ c ++ d ++ e ++ f ++ g) h,
    )

files_length : length (escape (codes "/files")) ≡ 6
unfolding escape_byte
files_length = refl

slash_length : length (escape (codes "/")) ≡ 1
unfolding escape_byte
slash_length = refl

path_length : (p : LinkParts) → All IsByte p.path
    → length (escape (file_path p)) ≡ 10 + length (escape p.table.share) + length (escape p.table.schema) + length (escape p.table.table) + length (escaped p.path)
path_length p bytes =
    let start = codes "/files" ++ codes "/" in
    let first : length (escape start) ≡ length (escape (codes "/files")) + length (escape (codes "/")) = escape_both (codes "/files") (codes "/") in
    omega (arith, first, files_length, slash_length, eight start p.table.share (codes "/") p.table.schema (codes "/") p.table.table (codes "/") (escaped p.path), path_plain p.path bytes)

binding_length : length (escape (codes "?b=")) ≡ 3
unfolding escape_byte
binding_length = refl

expires_length : length (escape (codes "&e=")) ≡ 3
unfolding escape_byte
expires_length = refl

grant_length : length (escape (codes "&g=")) ≡ 3
unfolding escape_byte
grant_length = refl

recipient_length : length (escape (codes "&r=")) ≡ 3
unfolding escape_byte
recipient_length = refl

tag_length : length (escape (codes "&t=")) ≡ 3
unfolding escape_byte
tag_length = refl

query_length : (p : LinkParts) → p.binding < 2 ^ 64 → p.expires < 2 ^ 64 → p.grant < 2 ^ 64
    → length (escape (query p)) ≡ 12 + length (decimal p.binding) + length (decimal p.expires) + length (decimal p.grant) + length (escape p.recipient)
query_length p binding expires grant =
    omega (
      arith,
      eight (codes "?b=") (decimal p.binding) (codes "&e=") (decimal p.expires) (codes "&g=") (decimal p.grant) (codes "&r=") p.recipient,
      binding_length,
      expires_length,
      grant_length,
      recipient_length,
      number_plain p.binding binding,
      number_plain p.expires expires,
      number_plain p.grant grant,
    )

pub link_length : (key endpoint : List ℕ) (p : LinkParts) → p.binding < 2 ^ 64 → p.expires < 2 ^ 64 → p.grant < 2 ^ 64 → All IsByte p.path
    → length (escape (link_text key endpoint p))
    ≡ 89 + length (escape endpoint) + (length (escape p.table.share) + length (escape p.table.schema) + length (escape p.table.table) + length (escape p.recipient))
    + (length (decimal p.binding) + length (decimal p.expires) + length (decimal p.grant)) + length (escaped p.path)
link_length key endpoint p binding expires grant bytes =
    omega (
      arith,
      escape_both endpoint (unsigned p ++ tag_text key (unsigned p)),
      escape_both (unsigned p) (tag_text key (unsigned p)),
      escape_both (file_path p) (query p),
      escape_both (codes "&t=") (encode_lower (hmac key (unsigned p))),
      tag_length,
      tag_plain key (unsigned p),
      path_length p bytes,
      query_length p binding expires grant,
    )
