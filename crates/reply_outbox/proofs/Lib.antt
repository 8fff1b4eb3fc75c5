pub mod InOrderLemmas
