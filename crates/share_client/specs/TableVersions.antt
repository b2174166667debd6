-- The version that a response states (Delta Sharing PROTOCOL.md, the response header `delta-table-version`).
use Rattle.std.specs.Prelude.{ℕ, ◌-◌, ◌^◌, Option, codes}
use Rattle.http_message.specs.Fields.{first_named}
use Rattle.text_forms.specs.Numbers.{number_in}
use Rattle.share_client.specs.declared.exchange.Response.{Response}

-- the field Delta-Table-Version, in digits, 0 to 2^63 - 1
unfoldable pub version_in : Response → Option ℕ
version_in r = number_in 0 (2 ^ 63 - 1) (first_named (codes "delta-table-version") r.fields)
