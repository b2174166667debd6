-- Targets of requests (RFC 9112, section 3.2), and the one spelling of a link's (RFC 3986, sections 2.1 and 6.2.2).
use Rattle.std.specs.Prelude.{ℕ, List, [], ◌∷◌, ◌++◌, Option, Some, None, option_map, codes}
use Rattle.percent_encoding.specs.Percent.{percent_decode}
use Rattle.json_tree.specs.Options.{◌>>=◌}
use Rattle.text_forms.specs.Escape.{escaped}
use Rattle.signed_link.specs.Reading.{after, cut}

-- the path, and the query behind the first `?`, where there is one
abbrev pub split_at : List ℕ → Option (List ℕ × List ℕ) → List ℕ × Option (List ℕ)
split_at target None = (target, None)
split_at target (Some pair) = (pair.0, Some pair.1)

abbrev pub split_query : List ℕ → List ℕ × Option (List ℕ)
split_query target = split_at target (cut 63 target)

-- the path behind a host
abbrev pub behind_host : List ℕ → Option (List ℕ)
behind_host rest = option_map (λ pair. pair.1) (cut 47 rest)

abbrev pub host_or : Option (List ℕ) → Option (List ℕ) → Option (List ℕ)
host_or None other = other
host_or (Some rest) other = behind_host rest

-- the path below the root: of a target in absolute form, what stands behind its host
abbrev pub below_root : List ℕ → Option (List ℕ)
below_root path = host_or (after (codes "http://") path) (host_or (after (codes "https://") path) (after (codes "/") path))

-- the path below the endpoint
abbrev pub below_endpoint : List ℕ → Option (List ℕ)
below_endpoint path = below_root path >>= after (codes "delta-sharing/")

-- ---- links

-- the part unescaped, and escaped again as links are spelt
abbrev pub one_spelling : List ℕ → List ℕ
one_spelling part = escaped (percent_decode part)

abbrev pub segment_spelling : List ℕ → List ℕ
segment_spelling name = one_spelling name ++ codes "/"

-- what stands below `files/`: the names of the share, the schema and the table, and the file's path
abbrev pub link_parts : List ℕ → Option (List ℕ × List ℕ × List ℕ × List ℕ)
link_parts below = do
  share ← cut 47 below
  schema ← cut 47 share.1
  table ← cut 47 schema.1
  Some (share.0, schema.0, table.0, table.1)

abbrev pub parts_spelling : List ℕ → Option (List ℕ × List ℕ × List ℕ × List ℕ) → List ℕ
parts_spelling below None = below
parts_spelling below (Some p) = segment_spelling p.0 ++ (segment_spelling p.1 ++ (segment_spelling p.2 ++ one_spelling p.3))

-- each of the four in its one spelling; what has fewer is no link's, and is left as it came
abbrev pub path_spelling : List ℕ → List ℕ
path_spelling below = parts_spelling below (link_parts below)

abbrev pub query_text : Option (List ℕ) → List ℕ
query_text None = []
query_text (Some query) = 63 ∷ query

-- the target of a link whose path stands so below `files/`, in its one spelling; the query is left as it came
abbrev pub link_target : List ℕ → Option (List ℕ) → List ℕ
link_target below query = codes "/delta-sharing/files/" ++ path_spelling below ++ query_text query
