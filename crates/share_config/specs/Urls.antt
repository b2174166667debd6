-- `http` URLs with a host, as the URL Standard reads them (section 4.4).
use Rattle.std.specs.Prelude.{ℕ, ◌&&◌, Bool, false, List, Option, Some, None, Ok, Err, bytes_eq, codes, if◌then◌else◌}
use Rattle.url.specs.Parser.{Parsed, parse_url}
use Rattle.url.specs.Parts.{Parts, has_host}

abbrev pub is_http_with_host : Parsed Parts → Bool
is_http_with_host (Ok url) = bytes_eq url.scheme (codes "http") && has_host url
is_http_with_host (Err e) = false

-- the text is an absolute URL whose scheme is `http` and which has a host
abbrev pub is_http_url : List ℕ → Bool
is_http_url text = is_http_with_host (parse_url None text)

abbrev pub http_url_in : List ℕ → Option (List ℕ)
http_url_in text = if is_http_url text then Some text else None
