-- The forms of a body: JSON (RFC 8259, section 11), lines of JSON, and bytes (RFC 2046, section 4.5.1).
use Rattle.std.specs.Prelude.{ℕ, List, codes}
use Rattle.response_text.specs.declared.head.ContentType.{ContentType}
use Rattle.response_text.specs.declared.head.ContentType.TheVariants as content

abbrev pub content_type_name : ContentType → List ℕ
content_type_name content.Json = codes "application/json; charset=utf-8"
content_type_name content.JsonLines = codes "application/x-ndjson; charset=utf-8"
content_type_name content.DeltaLines = codes "application/x-ndjson; charset=utf-8"
content_type_name content.Bytes = codes "application/octet-stream"
