pub mod SiteLines
