-- Where a URL's requests go (URL Standard, section 4.4; RFC 9112, section 3.2; RFC 9110, section 7.2).
use Rattle.std.specs.Prelude.{ℕ, List, [], ◌∷◌, ◌++◌, ◌&&◌, Option, Some, None, Ok, Err, bytes_eq, codes, decimal, unwrap_or, if◌then◌else◌}
use Rattle.url.specs.Parser.{Parsed, parse_url}
use Rattle.url.specs.Parts.{Parts, has_host, host_or_empty}
use Rattle.url.specs.Host.{host_text}
use Rattle.share_client.specs.declared.target.Target.{Target}

-- a colon and the port, if there is one
abbrev pub port_tail : Option ℕ → List ℕ
port_tail None = []
port_tail (Some port) = 58 ∷ decimal port

-- the host and the port to connect to, which is 80 where none is written, the value of Host, the path and the query
abbrev pub target_of : Parts → Target
target_of url = record {
  host = host_text (host_or_empty url);
  port = unwrap_or url.port 80;
  host_field = host_text (host_or_empty url) ++ port_tail url.port;
  path = url.path;
  query = url.query;
}

-- of an `http` URL that has a host
abbrev pub target_of_parsed : Parsed Parts → Option Target
target_of_parsed (Ok url) = if bytes_eq url.scheme (codes "http") && has_host url then Some (target_of url) else None
target_of_parsed (Err e) = None

-- where the requests go of a text that is an absolute `http` URL with a host
abbrev pub target_in : List ℕ → Option Target
target_in text = target_of_parsed (parse_url None text)
