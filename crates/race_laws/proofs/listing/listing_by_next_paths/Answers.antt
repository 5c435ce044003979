use Rattle.race_laws.proofs.Listings.{begins_none, begins_at_root, begins_one, begins_less, begins_more, lists_begins, lists_less, lists_more, lists_some}
use Rattle.race_laws.proofs.listing.listing_by_next_paths.Goals as goal

pub returns : goal.returns
returns c = record {
  none = begins_none;
  root = λ path. (begins_at_root path _, begins_one path);
  next = λ paths path next. (begins_less paths path next, λ (is, on). begins_more paths path next is on);
  whole = λ paths path. ((λ is. (lists_begins _ is, lists_less paths path is)), λ (is, lasts). lists_more paths path is lasts);
  not_empty = lists_some;
}
