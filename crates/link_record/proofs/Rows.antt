-- What the proofs of this crate say of a link record, and of its place in a bearer.
use mathlib.Core.Path.{refl}
use Rattle.state.specs.contracts.Link as T
use Rattle.state.proofs.Link.TheLaws as T'
use Rattle.state.specs.contracts.Bearer as B
use Rattle.state.proofs.Bearer.TheLaws as B'
use Rattle.link_record_laws.proofs.Data.{Data, struct}
use Rattle.link_record.specs.Record.{with_link}
use Rattle.link_record.proofs.Field.{Field}

abbrev pub link : Data T.the_row
link = struct T.the_type T'.the_laws T'.the_plain (λ x. tt) (λ x f. refl)

abbrev pub bearer_link : Field B.the_type B'.the_laws B'.the_plain link
bearer_link = record {
  index = 1;
  place = _;
  lies_at = refl;
  get = λ b. b.link;
  put = with_link;
  held = λ b. refl;
  stored = λ b l. refl;
  asked = λ b g. g.1.0;
  again = λ b l g gl. (g.0, (gl, g.1.1));
  last = λ b. tt;
  silent = λ b f. refl;
}
